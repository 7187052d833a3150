-- A line is read only of what is spelled so.
use Rattle.std.proofs.Common.{◌≡◌, ℕ, ◌==◌, inl, inr, Bool, true, false, List, [], ◌∷◌, ◌++◌, length, Option, Some}
use Rattle.std.proofs.Common.{None, option_map, refl, ap, sym, ◌∙◌, subst, arith, append_assoc, append-nil}
use Rattle.std.specs.Prelude.{codes, decimal, map, IsUtf8, if◌then◌else◌}
use Rattle.std.specs.List.{slice_split, join_with_byte}
use Rattle.std.specs.Str.{is_utf8}
use Rattle.std.proofs.lemmas.List.Splits.{length-slice_split, join_with_byte-slice_split}
use Rattle.std.proofs.lemmas.Str.{IsUtf8-from_is_utf8}
use Rattle.alias_lattice.specs.Reasons.{reasons_in}
use Rattle.alias_lattice.specs.declared.site.Site.{Site}
use Rattle.alias_text.specs.Lines.{kind_word}
use Rattle.alias_text.specs.Certificates.{site_text, reasons_text, sites_text, key_text}
use Rattle.alias_cert_text.specs.Cuts.{◌>>=◌, cut}
use Rattle.alias_cert_text.specs.Keys.{key_of}
use Rattle.alias_cert_text.specs.Lines.{unkept_of, function_line, block_line, value_line, sites_of, variable_line}
use Rattle.alias_cert_text.specs.Lines.{effect_line, temporary_line, other_line, line_with, line_by, line_of}
use Rattle.alias_cert_text.specs.Reasons.{reasons_of}
use Rattle.alias_cert_text.specs.Sites.{site_of}
use Rattle.alias_cert_text.specs.Words.{text_is, number_of, identifier_of, function_of, kind_of}
use Rattle.alias_cert_text.specs.declared.line.Line.{Line}
use Rattle.alias_cert_text.specs.declared.line.Line.TheVariants as line
use Rattle.alias_certificate_laws.specs.text.Spelled.{IsWordAndMore, IsSpelled}
use Rattle.alias_certificate_laws.proofs.text.Inverse.{then_some, map_some, if_some, is_word, number_is, identifier_is}
use Rattle.alias_certificate_laws.proofs.text.Inverse.{function_is, kind_is, cut_is, site_is, key_is}
use Rattle.alias_certificate_laws.proofs.text.ReasonInverse.{reasons_is}
use Rattle.alias_certificate_laws.proofs.text.Spelling.{three_parts}

-- ---- lines of which nothing is kept

unkept_as : (made l : Line) (word named text : List ℕ) → text_is named word ≡ true → Some made ≡ Some l
    → IsWordAndMore named text → (IsWordAndMore word text → IsSpelled made text) → IsSpelled l text
unkept_as made l word named text is e more spelled =
    let same : made ≡ l = cc in
    subst (λ (z : Line). IsSpelled z text) same
    (spelled (subst (λ (w : List ℕ). IsWordAndMore w text) (is_word named word is) more))

unkept_is : (named text : List ℕ) (l : Line) → unkept_of named ≡ Some l → IsWordAndMore named text → IsSpelled l text
unkept_is named text l h more =
    elim (if_some (text_is named (codes "visits")) (Some line.Visits) _ l h) [
      | inl p ↦ unkept_as line.Visits l (codes "visits") named text p.0 p.1 more (λ x. x)
      | inr h1 ↦
          elim (if_some (text_is named (codes "first")) (Some line.First) _ l h1) [
            | inl p ↦ unkept_as line.First l (codes "first") named text p.0 p.1 more (λ x. x)
            | inr h2 ↦
                elim (if_some (text_is named (codes "range")) (Some line.Range) _ l h2) [
                  | inl p ↦ unkept_as line.Range l (codes "range") named text p.0 p.1 more (λ x. x)
                  | inr h3 ↦
                      elim (if_some (text_is named (codes "reports")) (Some line.Reports) _ l h3) [
                        | inl p ↦ unkept_as line.Reports l (codes "reports") named text p.0 p.1 more (λ x. x)
                        | inr h4 ↦ elim (if_some (text_is named (codes "report")) (Some line.Report) None l h4) [
                          | inl p ↦ unkept_as line.Report l (codes "report") named text p.0 p.1 more (λ x. x)
                          | inr h5 ↦ cc
                        ]
                      ]
                ]
          ]
    ]

-- ---- lines that are kept, behind their words. `rest` is what follows the blank

module _ (text rest : List ℕ) (l : Line) where
  function_spelled : codes "function " ++ rest ≡ text → function_line rest ≡ Some l → IsSpelled l text
  function_spelled e h =
      elim (if_some (text_is rest (codes "root")) (Some (line.Function None))
      (option_map (λ f. line.Function (Some f)) (function_of rest)) l h) [
        | inl p ↦
            let same : line.Function None ≡ l = cc in
            subst (λ (z : Line). IsSpelled z text) same
            (ap (λ x. codes "function " ++ x) (sym (is_word rest (codes "root") p.0)) ∙ e)
        | inr g ↦
            let one = map_some (function_of rest) (λ f. line.Function (Some f)) l g in
            let f = function_is rest one.0 one.1 in
            subst (λ (z : Line). IsSpelled z text) one.2 (ap (λ x. codes "function " ++ x) f.0 ∙ e)
      ]

  block_spelled : codes "block " ++ rest ≡ text → block_line rest ≡ Some l → IsSpelled l text
  block_spelled e h =
      let one = map_some (number_of rest) (λ n. line.Block (record { 0 = n })) l h in
      let n = number_is rest one.0 one.1 in
      subst (λ (z : Line). IsSpelled z text) one.2 (ap (λ x. codes "block " ++ x) n.0 ∙ e)

  value_spelled : codes "value " ++ rest ≡ text → value_line rest ≡ Some l → IsSpelled l text
  value_spelled e h =
      let a = then_some (cut 32 rest) (λ parts. cut 32 parts.1
      >>= (λ known. site_of parts.0 >>= (λ site. kind_of known.0
      >>= (λ kind. reasons_of known.1 >>= (λ reasons.
      Some (line.Value (record { site = site; value = record { kind = kind; reason = reasons } }))))))) l h in
      let b = then_some (cut 32 a.0.1) (λ known. site_of a.0.0
      >>= (λ site. kind_of known.0 >>= (λ kind. reasons_of known.1
      >>= (λ reasons. Some (line.Value (record
      { site = site; value = record { kind = kind; reason = reasons } })))))) l a.2 in
      let c = then_some (site_of a.0.0) (λ site. kind_of b.0.0
      >>= (λ kind. reasons_of b.0.1 >>= (λ reasons.
      Some (line.Value (record { site = site; value = record { kind = kind; reason = reasons } }))))) l b.2 in
      let d = then_some (kind_of b.0.0) (λ kind. reasons_of b.0.1
      >>= (λ reasons. Some (line.Value (record { site = c.0; value = record { kind = kind; reason = reasons } }))))
      l c.2 in
      let r = then_some (reasons_of b.0.1) (λ reasons.
      Some (line.Value (record { site = c.0; value = record { kind = d.0; reason = reasons } }))) l d.2 in
      let same : line.Value (record { site = c.0; value = record { kind = d.0; reason = r.0 } }) ≡ l = cc in
      let s = site_text c.0 in
      let k = kind_word d.0 in
      let parts : (((s ++ 32 ∷ []) ++ k) ++ 32 ∷ []) ++ reasons_text (reasons_in r.0) ≡ rest =
      ap (λ (x : List ℕ). (((x ++ 32 ∷ []) ++ k) ++ 32 ∷ []) ++ reasons_text (reasons_in r.0)) (site_is a.0.0 c.0 c.1).0
      ∙ ap (λ (x : List ℕ). (((a.0.0 ++ 32 ∷ []) ++ x) ++ 32 ∷ []) ++ reasons_text (reasons_in r.0))
      (kind_is b.0.0 d.0 d.1)
      ∙ ap (λ (x : List ℕ). (((a.0.0 ++ 32 ∷ []) ++ b.0.0) ++ 32 ∷ []) ++ x) (reasons_is b.0.1 r.0 r.1).0
      ∙ three_parts a.0.0 b.0.0 b.0.1 ∙ append_assoc a.0.0 (32 ∷ []) ((b.0.0 ++ 32 ∷ []) ++ b.0.1)
      ∙ ap (λ (x : List ℕ). a.0.0 ++ 32 ∷ x) (append_assoc b.0.0 (32 ∷ []) b.0.1 ∙ sym (cut_is 32 a.0.1 b.0 b.1))
      ∙ sym (cut_is 32 rest a.0 a.1) in
      subst (λ (z : Line). IsSpelled z text) same
      (ap (λ (x : List ℕ). (codes "value " ++ x) ++ codes "\n") parts ∙ ap (λ (x : List ℕ). x ++ codes "\n") e)

  effect_spelled : (word : List ℕ) → text ≡ word ++ 32 ∷ rest → effect_line word rest ≡ Some l → IsSpelled l text
  effect_spelled word e h =
      let one = map_some (number_of word) (λ n. line.Effect (record { instruction = n; text = rest })) l h in
      let n = number_is word one.0 one.1 in
      subst (λ (z : Line). IsSpelled z text) one.2
      (append_assoc (decimal one.0) (32 ∷ []) rest ∙ ap (λ (x : List ℕ). x ++ 32 ∷ rest) n.0 ∙ sym e)

  temporary_spelled : codes "temporary " ++ rest ≡ text → temporary_line rest ≡ Some l → IsSpelled l text
  temporary_spelled e h =
      let a = then_some (cut 32 rest) (λ parts. identifier_of parts.0
      >>= (λ identifier. key_of parts.1 >>= (λ key.
      Some (line.Temporary (record { identifier = identifier; key = key }))))) l h in
      let b = then_some (identifier_of a.0.0)
      (λ identifier. key_of a.0.1 >>= (λ key.
      Some (line.Temporary (record { identifier = identifier; key = key })))) l a.2 in
      let c = then_some (key_of a.0.1) (λ key. Some (line.Temporary (record { identifier = b.0; key = key }))) l b.2 in
      let same : line.Temporary (record { identifier = b.0; key = c.0 }) ≡ l = cc in
      let parts : (decimal b.0.0 ++ 32 ∷ []) ++ key_text c.0 ≡ rest =
      ap (λ (x : List ℕ). (x ++ 32 ∷ []) ++ key_text c.0) (identifier_is a.0.0 b.0 b.1).0
      ∙ ap (λ (x : List ℕ). (a.0.0 ++ 32 ∷ []) ++ x) (key_is a.0.1 c.0 c.1).0
      ∙ append_assoc a.0.0 (32 ∷ []) a.0.1 ∙ sym (cut_is 32 rest a.0 a.1) in
      subst (λ (z : Line). IsSpelled z text) same (ap (λ (x : List ℕ). codes "temporary " ++ x) parts ∙ e)

-- ---- sites behind one another

sites_words : (words : List (List ℕ)) (sites : List Site) → sites_of words ≡ Some sites → map site_text sites ≡ words
sites_words [] sites h = let none : [] ≡ sites = cc in ap (map site_text) (sym none)
sites_words (w ∷ ws) sites h =
    let a = then_some (site_of w) (λ site. option_map (λ more. site ∷ more) (sites_of ws)) sites h in
    let b = map_some (sites_of ws) (λ more. a.0 ∷ more) sites a.2 in
    ap (map site_text) (sym b.2) ∙ ap (λ x. x ∷ map site_text b.0) (site_is w a.0 a.1).0
    ∙ ap (λ x. w ∷ x) (sites_words ws b.0 b.1)

abbrev held : List Site → List (Site × Unit {0})
held sites = map (λ (s : Site). (s, tt)) sites

spaced_sites : (s : Site) (sites : List Site) → sites_text (held (s ∷ sites)) ≡ 32
    ∷ join_with_byte 32 (map site_text (s ∷ sites))
spaced_sites s [] = ap (λ (x : List ℕ). 32 ∷ x) (append-nil (site_text s))
spaced_sites s (q ∷ sites) = ap (λ (x : List ℕ). 32 ∷ (site_text s ++ x)) (spaced_sites q sites)

some_words : (t : List ℕ) → slice_split (λ b. b == 32) t ≡ [] → ⊥
some_words t e =
    let n = length-slice_split (λ b. b == 32) t in
    let none : length (slice_split (λ b. b == 32) t) ≡ 0 = ap length e in
    omega (arith, n, none)

sites_joined : (t : List ℕ) (sites : List Site) → map site_text sites ≡ slice_split (λ b. b == 32) t
    → sites_text (held sites) ≡ 32 ∷ t
sites_joined t [] e = absurd (some_words t (sym e))
sites_joined t (s ∷ sites) e = spaced_sites s sites
    ∙ ap (λ (x : List ℕ). 32 ∷ x) (ap (join_with_byte 32) e ∙ join_with_byte-slice_split 32 t)

module _ (text rest : List ℕ) (l : Line) where
  variable_spelled : codes "variable " ++ rest ≡ text → variable_line rest ≡ Some l → IsSpelled l text
  variable_spelled e h =
      let a = then_some (cut 32 rest) (λ parts. identifier_of parts.0
      >>= (λ identifier. sites_of (slice_split (λ b. b == 32) parts.1)
      >>= (λ sites. Some (line.Variable (record { identifier = identifier; sites = sites }))))) l h in
      let b = then_some (identifier_of a.0.0)
      (λ identifier. sites_of (slice_split (λ b. b == 32) a.0.1)
      >>= (λ sites. Some (line.Variable (record { identifier = identifier; sites = sites })))) l a.2 in
      let c = then_some (sites_of (slice_split (λ b. b == 32) a.0.1))
      (λ sites. Some (line.Variable (record { identifier = b.0; sites = sites }))) l b.2 in
      let same : line.Variable (record { identifier = b.0; sites = c.0 }) ≡ l = cc in
      let parts : decimal b.0.0 ++ sites_text (held c.0) ≡ rest =
      ap (λ (x : List ℕ). x ++ sites_text (held c.0)) (identifier_is a.0.0 b.0 b.1).0
      ∙ ap (λ (x : List ℕ). a.0.0 ++ x) (sites_joined a.0.1 c.0
      (sites_words (slice_split (λ b. b == 32) a.0.1) c.0 c.1)) ∙ sym (cut_is 32 rest a.0 a.1) in
      subst (λ (z : Line). IsSpelled z text) same
      (ap (λ (x : List ℕ). (codes "variable " ++ x) ++ codes "\n") parts ∙ ap (λ (x : List ℕ). x ++ codes "\n") e)

  end_spelled : codes "end " ++ rest ≡ text → Some (line.End rest) ≡ Some l → IsSpelled l text
  end_spelled e h = let same : line.End rest ≡ l = cc in subst (λ (z : Line). IsSpelled z text) same e

  summary_spelled : codes "summary " ++ rest ≡ text → Some (line.Summary rest) ≡ Some l → IsSpelled l text
  summary_spelled e h = let same : line.Summary rest ≡ l = cc in subst (λ (z : Line). IsSpelled z text) same e

-- ---- by the first word

module _ (text word rest : List ℕ) (l : Line) (whole : text ≡ word ++ 32 ∷ rest) where
  -- the word is the one that is named
  named : (w : List ℕ) → text_is word w ≡ true → w ++ 32 ∷ rest ≡ text
  named w is = ap (λ (x : List ℕ). x ++ 32 ∷ rest) (sym (is_word word w is)) ∙ sym whole

  other_is : (o : Option Line) → unkept_of word ≡ o → other_line word rest o ≡ Some l → IsSpelled l text
  other_is None e h = effect_spelled text rest l word whole h
  other_is (Some found) e h = unkept_is word text l (e ∙ h) (inr (rest, whole))

  line_with_is : line_with word rest ≡ Some l → IsSpelled l text
  line_with_is h =
      elim (if_some (text_is word (codes "function")) (function_line rest) _ l h) [
        | inl p ↦ function_spelled text rest l (named (codes "function") p.0) p.1
        | inr h1 ↦
            elim (if_some (text_is word (codes "block")) (block_line rest) _ l h1) [
              | inl p ↦ block_spelled text rest l (named (codes "block") p.0) p.1
              | inr h2 ↦
                  elim (if_some (text_is word (codes "value")) (value_line rest) _ l h2) [
                    | inl p ↦ value_spelled text rest l (named (codes "value") p.0) p.1
                    | inr h3 ↦
                        elim (if_some (text_is word (codes "variable")) (variable_line rest) _ l h3) [
                          | inl p ↦ variable_spelled text rest l (named (codes "variable") p.0) p.1
                          | inr h4 ↦
                              elim (if_some (text_is word (codes "end")) (Some (line.End rest)) _ l h4) [
                                | inl p ↦ end_spelled text rest l (named (codes "end") p.0) p.1
                                | inr h5 ↦
                                    elim (if_some (text_is word (codes "temporary")) (temporary_line rest) _ l h5) [
                                      | inl p ↦ temporary_spelled text rest l (named (codes "temporary") p.0) p.1
                                      | inr h6 ↦
                                          elim (if_some (text_is word (codes "summary")) (Some (line.Summary rest))
                                          (other_line word rest (unkept_of word)) l h6) [
                                            | inl p ↦ summary_spelled text rest l (named (codes "summary") p.0) p.1
                                            | inr h7 ↦ other_is (unkept_of word) refl h7
                                          ]
                                    ]
                              ]
                        ]
                  ]
            ]
      ]

line_by_is : (text : List ℕ) (l : Line) (o : Option (List ℕ × List ℕ)) → cut 32 text ≡ o → line_by text o ≡ Some l
    → IsSpelled l text
line_by_is text l None e h = unkept_is text text l h (inl refl)
line_by_is text l (Some parts) e h = line_with_is text parts.0 parts.1 l (cut_is 32 text parts e) h

then_only : {A : Type 0} (b : Bool) (x : Option A) (z : A) → (if b then x else None) ≡ Some z → (b ≡ true)
    × (x ≡ Some z)
then_only true x z h = (refl, h)
then_only false x z h = cc

pub line_is : (text : List ℕ) (l : Line) → line_of text ≡ Some l → IsUtf8 text × IsSpelled l text
line_is text l h =
    let a = then_only (is_utf8 text) (line_by text (cut 32 text)) l h in
    (IsUtf8-from_is_utf8 text a.0, line_by_is text l (cut 32 text) refl a.1)
