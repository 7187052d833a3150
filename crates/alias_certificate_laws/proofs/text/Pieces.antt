-- Numbers, words, sites and keys read back as what was printed.
use Rattle.std.proofs.Common.{◌≡◌, ℕ, true, List, [], ◌∷◌, ◌++◌, Some, None, option_map, refl, ap, ◌∙◌, arith}
use Rattle.std.proofs.Common.{append_assoc}
use Rattle.std.specs.Prelude.{codes, decimal}
use Rattle.std.proofs.lemmas.Cmp.{nat_list_eq_equiv}
use Rattle.json.specs.Print.{quoted}
use Rattle.alias_base.specs.declared.ids.FunctionId.{FunctionId}
use Rattle.alias_base.specs.declared.ids.IdentifierId.{IdentifierId}
use Rattle.alias_hir.specs.declared.effect.ValueKind.{ValueKind}
use Rattle.alias_hir.specs.declared.effect.ValueKind.TheVariants as kind
use Rattle.alias_hir.specs.declared.effect.ValueReason.{ValueReason}
use Rattle.alias_hir.specs.declared.effect.ValueReason.TheVariants as reason
use Rattle.alias_lattice.specs.declared.site.Site.{Site}
use Rattle.alias_lattice.specs.declared.site.Site.TheVariants.{Parameter, Context, Created, CreatedFrom, Function}
use Rattle.alias_lattice.specs.declared.site.Site.TheVariants.{AssignFrozen, AssignCopy, Default}
use Rattle.alias_tables.specs.declared.temp_key.TempKey.{TempKey}
use Rattle.alias_tables.specs.declared.temp_key.TempKey.TheVariants.{Named, Rest}
use Rattle.alias_text.specs.Lines.{kind_word, reason_word}
use Rattle.alias_text.specs.Certificates.{site_text, key_text, both_text, two_ids}
use Rattle.alias_cert_text.specs.Cuts.{cut}
use Rattle.alias_cert_text.specs.Keys.{unquoted, named_of, key_of_form, key_of}
use Rattle.alias_cert_text.specs.Sites.{site_of, site_named, site_of_one, site_of_two}
use Rattle.alias_cert_text.specs.Words.{number_of, identifier_of, function_of, kind_of, reason_of}
use Rattle.alias_cert_text.proofs.Cutting.{Lacks, cut_nowhere, cut_there, before_end_there}
use Rattle.alias_cert_text.proofs.Digits.{decimal_lacks}
use Rattle.alias_cert_text.proofs.Numbers.{number_read}
use Rattle.alias_cert_text.proofs.Quoting.{read-quoted}
use Rattle.alias_text.specs.Fitting.{Small, SmallSite, SmallKey}
use Rattle.alias_certificate_laws.proofs.text.Bytes.{at_least}

pub number_back : (n : ℕ) → Small n → number_of (decimal n) ≡ Some n
number_back n h = number_read (decimal n) n h refl

pub identifier_back : (x : IdentifierId) → Small x.0 → identifier_of (decimal x.0) ≡ Some x
identifier_back x h = ap (option_map (λ n. record { 0 = n })) (number_back x.0 h)

pub function_back : (f : FunctionId) → Small f.0 → function_of (decimal f.0) ≡ Some f
function_back f h = ap (option_map (λ n. record { 0 = n })) (number_back f.0 h)

pub kind_back : (k : ValueKind) → kind_of (kind_word k) ≡ Some k
kind_back kind.Primitive = refl
kind_back kind.Global = refl
kind_back kind.Frozen = refl
kind_back kind.Mutable = refl
kind_back kind.Context = refl
kind_back kind.MaybeFrozen = refl

pub reason_back : (r : ValueReason) → reason_of (reason_word r) ≡ Some r
reason_back reason.KnownReturnSignature = refl
reason_back reason.State = refl
reason_back reason.ReducerState = refl
reason_back reason.Context = refl
reason_back reason.Effect = refl
reason_back reason.HookCaptured = refl
reason_back reason.HookReturn = refl
reason_back reason.Global = refl
reason_back reason.JsxCaptured = refl
reason_back reason.StoreLocal = refl
reason_back reason.ReactiveFunctionArgument = refl
reason_back reason.Other = refl

pub kind_high : (k : ValueKind) → at_least 65 (kind_word k) ≡ true
kind_high kind.Primitive = refl
kind_high kind.Global = refl
kind_high kind.Frozen = refl
kind_high kind.Mutable = refl
kind_high kind.Context = refl
kind_high kind.MaybeFrozen = refl

pub reason_high : (r : ValueReason) → at_least 65 (reason_word r) ≡ true
reason_high reason.KnownReturnSignature = refl
reason_high reason.State = refl
reason_high reason.ReducerState = refl
reason_high reason.Context = refl
reason_high reason.Effect = refl
reason_high reason.HookCaptured = refl
reason_high reason.HookReturn = refl
reason_high reason.Global = refl
reason_high reason.JsxCaptured = refl
reason_high reason.StoreLocal = refl
reason_high reason.ReactiveFunctionArgument = refl
reason_high reason.Other = refl

-- ---- sites

-- a text with this form, and these names in the parentheses
site_by : (form names text : List ℕ) (s : Site) → cut 40 text ≡ Some (form, names ++ 41 ∷ [])
    → site_named form names (cut 44 names) ≡ Some s → site_of text ≡ Some s
site_by form names text s opened named = rw opened (rw (before_end_there 41 names) named)

no_comma : (n : ℕ) → cut 44 (decimal n) ≡ None
no_comma n = cut_nowhere 44 (decimal n) (decimal_lacks 44 n (omega arith))

comma : (a rest : List ℕ) → Lacks 44 a → cut 44 ((a ++ 44 ∷ []) ++ rest) ≡ Some (a, rest)
comma a rest h = ap (cut 44) (append_assoc a (44 ∷ []) rest) ∙ cut_there 44 a rest h

number_comma : (n : ℕ) (rest : List ℕ) → cut 44 ((decimal n ++ 44 ∷ []) ++ rest) ≡ Some (decimal n, rest)
number_comma n rest = comma (decimal n) rest (decimal_lacks 44 n (omega arith))

pub kind_cut : (k : ValueKind) (rest : List ℕ) → cut 44 ((kind_word k ++ 44 ∷ []) ++ rest) ≡ Some (kind_word k, rest)
kind_cut kind.Primitive rest = refl
kind_cut kind.Global rest = refl
kind_cut kind.Frozen rest = refl
kind_cut kind.Mutable rest = refl
kind_cut kind.Context rest = refl
kind_cut kind.MaybeFrozen rest = refl

one_identifier : (form : List ℕ) (make : IdentifierId → Site) (x : IdentifierId) → Small x.0
    → ((name : List ℕ) → site_of_one form name ≡ option_map make (identifier_of name))
    → site_named form (decimal x.0) (cut 44 (decimal x.0)) ≡ Some (make x)
one_identifier form make x h is = rw (no_comma x.0) (is (decimal x.0) ∙ ap (option_map make) (identifier_back x h))

two_identifiers : (form : List ℕ) (from into : IdentifierId) (s : Site) → Small from.0 → Small into.0
    → site_of_two form from into ≡ Some s → site_named form (two_ids from into) (cut 44 (two_ids from into)) ≡ Some s
two_identifiers form from into s h g is =
    rw (number_comma from.0 (decimal into.0))
    (rw (no_comma into.0) (rw (identifier_back from h) (rw (identifier_back into g) is)))

new_site : (into : IdentifierId) (k : ValueKind) (r : ValueReason) → Small into.0
    → site_named (codes "Created") (both_text (decimal into.0) (both_text (kind_word k) (reason_word r)))
    (cut 44 (both_text (decimal into.0) (both_text (kind_word k) (reason_word r)))) ≡ Some (Created into k r)
new_site into k r h =
    rw (number_comma into.0 (both_text (kind_word k) (reason_word r)))
    (rw (kind_cut k (reason_word r)) (rw (identifier_back into h) (rw (kind_back k) (rw (reason_back r) refl))))

pub site_back : (s : Site) → SmallSite s → site_of (site_text s) ≡ Some s
site_back (Parameter x) h = site_by (codes "Parameter") (decimal x.0) (site_text (Parameter x)) (Parameter x) refl
    (one_identifier (codes "Parameter") Parameter x h (λ name. refl))
site_back (Context x) h = site_by (codes "Context") (decimal x.0) (site_text (Context x)) (Context x) refl
    (one_identifier (codes "Context") Context x h (λ name. refl))
site_back (Created into k r) h = site_by (codes "Created")
    (both_text (decimal into.0) (both_text (kind_word k) (reason_word r))) (site_text (Created into k r))
    (Created into k r) refl (new_site into k r h)
site_back (CreatedFrom from into) h = site_by (codes "CreatedFrom") (two_ids from into)
    (site_text (CreatedFrom from into)) (CreatedFrom from into) refl
    (two_identifiers (codes "CreatedFrom") from into (CreatedFrom from into) h.0 h.1 refl)
site_back (Function f) h = site_by (codes "Function") (decimal f.0) (site_text (Function f)) (Function f) refl
    (rw (no_comma f.0) (ap (option_map Function) (function_back f h)))
site_back (AssignFrozen from into) h = site_by (codes "AssignFrozen") (two_ids from into)
    (site_text (AssignFrozen from into)) (AssignFrozen from into) refl
    (two_identifiers (codes "AssignFrozen") from into (AssignFrozen from into) h.0 h.1 refl)
site_back (AssignCopy from into) h = site_by (codes "AssignCopy") (two_ids from into) (site_text (AssignCopy from into))
    (AssignCopy from into) refl (two_identifiers (codes "AssignCopy") from into (AssignCopy from into) h.0 h.1 refl)
site_back (Default x) h = site_by (codes "Default") (decimal x.0) (site_text (Default x)) (Default x) refl
    (one_identifier (codes "Default") Default x h (λ name. refl))

-- ---- keys

pub name_back : (name : List ℕ) → unquoted (quoted name) ≡ Some name
name_back name = rw (read-quoted name) (rw (nat_list_eq_equiv.refl (quoted name)) refl)

key_by : (form names text : List ℕ) (k : TempKey) → cut 40 text ≡ Some (form, names ++ 41 ∷ []) → key_of_form form names
    ≡ Some k → key_of text ≡ Some k
key_by form names text k opened named = rw opened (rw (before_end_there 41 names) named)

named_back : (into : IdentifierId) (name : List ℕ) → Small into.0 → named_of (both_text (decimal into.0) (quoted name))
    ≡ Some (Named into (record { text = name }))
named_back into name h = rw (number_comma into.0 (quoted name)) (rw (identifier_back into h) (rw (name_back name) refl))

pub key_back : (k : TempKey) → SmallKey k → key_of (key_text k) ≡ Some k
key_back (Named into name) h = key_by (codes "Named") (both_text (decimal into.0) (quoted name.text))
    (key_text (Named into name)) (Named into name) refl (named_back into name.text h)
key_back (Rest f) h = key_by (codes "Rest") (decimal f.0) (key_text (Rest f)) (Rest f) refl
    (ap (option_map Rest) (function_back f h))
