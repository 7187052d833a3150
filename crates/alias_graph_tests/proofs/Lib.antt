pub mod TwoPhis
