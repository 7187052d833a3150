-- The temporary of each key.
use Rattle.std.specs.Prelude.{ℕ, Bool, List, Option, Some}
use Rattle.std.specs.declared.cmp.Ordering.{Ordering}
use Rattle.std.specs.Cmp.{IsEquivalence}
use Rattle.std.specs.Ordering.{eq_by_cmp}
use Rattle.std.proofs.lemmas.Cmp.{eq_by_cmp_equiv}
use Rattle.std.specs.BTreeMap.{BTreeMap, get}
use Rattle.alias_base.specs.Indexes.{first_of, slot_of, IsIndex}
use Rattle.alias_hir.specs.declared.place.Place.{Place}
use Rattle.alias_tables.specs.declared.temp_key.TempKey.{TempKey}
use Rattle.alias_tables.specs.declared.temporaries.Temporary.{Temporary}
use Rattle.alias_tables.specs.contracts.temp_key.TempKeyOrd.TheImpl as keys
use Rattle.alias_tables.specs.contracts.temp_key.TempKeyOrd.TheImpl.Laws as laws

abbrev pub temp_cmp : TempKey → TempKey → Ordering
temp_cmp = keys.ghosts.cmp

abbrev pub same_temp : TempKey → TempKey → Bool
same_temp = eq_by_cmp temp_cmp

pub temps_are_told_apart : IsEquivalence same_temp
temps_are_told_apart = eq_by_cmp_equiv laws.total-law

abbrev pub temporary_of : TempKey → Place → Temporary
temporary_of key p = record { key = key; place = p }

abbrev pub key_in : Temporary → Option TempKey
key_in t = Some t.key

-- the temporary of the key
abbrev pub temp_like : TempKey → List Temporary → Option Temporary
temp_like = first_of same_temp key_in

-- and its slot
abbrev pub temp_slot_like : TempKey → List Temporary → Option ℕ
temp_slot_like = slot_of same_temp key_in

-- the map has the slot of each key
abbrev pub AreTempSlots : BTreeMap TempKey ℕ → List Temporary → Type 0
AreTempSlots slots temporaries = IsIndex same_temp key_in (get temp_cmp slots) temporaries
