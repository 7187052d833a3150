-- In a part of the graph that has all reports, walks and renders find the same.
use Rattle.std.proofs.Common.{◌≡◌, Bool, true, List, [], ◌∷◌, ◌++◌, fold, length, refl, ap, sym, ◌∙◌, subst}
use Rattle.std.proofs.Common.{append_assoc}
use Rattle.alias_base.specs.declared.ids.IdentifierId.{IdentifierId}
use Rattle.alias_hir.specs.declared.env.Environment.{Environment}
use Rattle.alias_hir.specs.declared.hir.HirFunction.{HirFunction}
use Rattle.alias_graph.specs.declared.types.Origin.{Origin}
use Rattle.alias_graph.specs.Nodes.{Nodes, Within}
use Rattle.alias_graph.specs.Parts.{SamePart, IsQuiet, CutOff}
use Rattle.alias_graph.specs.Renders.{rendered}
use Rattle.alias_graph.proofs.Parting.{walks_part, renders_part, marked_part, quiet_marked, reported_part}
use Rattle.alias_graph.proofs.Parting.{rendered_part}
use Rattle.alias_graph.specs.declared.recorded.listing.Listing.{Listing}
use Rattle.alias_graph.specs.declared.recorded.listing.RecordedMutation.{RecordedMutation}
use Rattle.alias_graph.specs.declared.recorded.listing.RecordedRender.{RecordedRender}
use Rattle.alias_graph.specs.recorded.Fitting.{ListingFits}
use Rattle.alias_graph.proofs.FitLaws.{graph_within}
use Rattle.alias_graph.specs.recorded.Recording.{graph_listed}
use Rattle.alias_range_pass.specs.summary.KeepingLaws.{within_kept}
use Rattle.alias_range_pass.specs.summary.Walking.{start_origin, expanded, mutation_start, mutation_entry}
use Rattle.alias_lint.specs.declared.sites.Lint.{Lint}
use Rattle.alias_lint.specs.Sites.{in_root, lints_at}
use Rattle.alias_lint.specs.WalkLints.{walk_reports, after_walk, mutation_lints, render_lint, render_lints, found_lints}

module _ (env : Environment) (f : HirFunction) (keep : IdentifierId → Bool) where
  -- the whole and the part, in which all reports are
  record Twins (g h : Nodes) : Type 0 where
    pub same : SamePart keep g h
    pub whole : IsQuiet keep env g
    pub part : IsQuiet keep env h

  module _ (g h : Nodes) (t : Twins g h) (m : RecordedMutation) where
    abbrev from : Origin
    from = start_origin (mutation_start m)

    walk_reported : walk_reports env h m ≡ walk_reports env g m
    walk_reported = reported_part keep env m.index from g h t.same t.whole t.part (expanded g (mutation_start m))
        (expanded h (mutation_start m)) (walks_part keep g h t.same m.index (mutation_entry m))

    walk_twins : Twins (after_walk g m) (after_walk h m)
    walk_twins = record {
      same = marked_part keep g h t.same m.index from (expanded g (mutation_start m)) (expanded h (mutation_start m))
          (walks_part keep g h t.same m.index (mutation_entry m));
      whole = quiet_marked keep env g m.index from (expanded g (mutation_start m)) t.whole;
      part = quiet_marked keep env h m.index from (expanded h (mutation_start m)) t.part;
    }

  mutations_same : (g h : Nodes) → Twins g h → (ms : List RecordedMutation) → mutation_lints env f h ms
      ≡ mutation_lints env f g ms
  mutations_same g h t [] = refl
  mutations_same g h t (m ∷ ms) =
      ap (λ z. lints_at (in_root f m.instruction) z ++ mutation_lints env f (after_walk h m) ms) (walk_reported g h t m)
      ∙ ap (λ z. lints_at (in_root f m.instruction) (walk_reports env g m) ++ z)
      (mutations_same (after_walk g m) (after_walk h m) (walk_twins g h t m) ms)

  twins_after : (g h : Nodes) → Twins g h → (ms : List RecordedMutation)
      → Twins (fold after_walk g ms) (fold after_walk h ms)
  twins_after g h t [] = t
  twins_after g h t (m ∷ ms) = twins_after (after_walk g m) (after_walk h m) (walk_twins g h t m) ms

  renders_same : (g h : Nodes) → Twins g h → (rs : List RecordedRender) → render_lints env f h rs
      ≡ render_lints env f g rs
  renders_same g h t [] = refl
  renders_same g h t (r ∷ rs) =
      ap (λ z. lints_at (in_root f r.instruction) z ++ render_lints env f h rs)
      (rendered_part keep env g h t.same t.whole t.part (rendered g r.index r.place.identifier).done
      (rendered h r.index r.place.identifier).done (renders_part keep g h t.same r.index r.place.identifier))
      ∙ ap (λ z. render_lint env f g r ++ z) (renders_same g h t rs)

  found_same : (g h : Nodes) → Twins g h → (l : Listing) → found_lints env f h l ≡ found_lints env f g l
  found_same g h t l =
      ap (λ z. z ++ render_lints env f (fold after_walk h l.mutations) l.renders) (mutations_same g h t l.mutations)
      ∙ ap (λ z. mutation_lints env f g l.mutations ++ z)
      (renders_same (fold after_walk g l.mutations) (fold after_walk h l.mutations) (twins_after g h t l.mutations)
      l.renders)

-- what is found in a part that is cut off is what is found in the whole
pub found_part : (env : Environment) (f : HirFunction) (ids : List IdentifierId) (g h : Nodes) (l : Listing)
    → CutOff true env ids g h → found_lints env f h l ≡ found_lints env f g l
found_part env f ids g h l cut = let q = cut.quiet refl in
    found_same env f cut.keep g h (record { same = cut.part; whole = q.0; part = q.1 }) l

-- the part has identifiers of the table alone
pub part_within : (env : Environment) (ids : List IdentifierId) (g h : Nodes) (l : Listing)
    → ListingFits (length env.identifiers) l → g ≡ graph_listed l → CutOff true env ids g h
    → Within (length env.identifiers) h
part_within env ids g h l fits is cut =
    within_kept (length env.identifiers) g h cut.part.ids
    (subst (Within (length env.identifiers)) (sym is) (graph_within (length env.identifiers) l.events fits.events))

-- what walks and renders of the part append
pub found_done : (env other : Environment) (f : HirFunction) (ids : List IdentifierId) (g h after : Nodes) (l : Listing)
    (ms : List RecordedMutation) (rs : List RecordedRender) (old a b : List Lint)
    → g ≡ graph_listed l → CutOff true env ids g h → ms ≡ l.mutations → rs ≡ l.renders → after ≡ fold after_walk h ms
    → other ≡ env
    → a ≡ old ++ mutation_lints env f h ms → b ≡ a ++ render_lints other f after rs → b ≡ old
    ++ found_lints env f (graph_listed l) l
found_done env other f ids g h after l ms rs old a b is cut mutations renders walked same first second =
    let found : List Lint = mutation_lints env f h l.mutations in
    let rendered_all : List Lint = render_lints env f (fold after_walk h l.mutations) l.renders in
    second
    ∙ ap (λ e. a ++ render_lints e f after rs) same
    ∙ ap (λ z. a ++ render_lints env f z rs) walked
    ∙ ap (λ z. a ++ render_lints env f (fold after_walk h z) rs) mutations
    ∙ ap (λ z. a ++ render_lints env f (fold after_walk h l.mutations) z) renders
    ∙ ap (λ z. z ++ rendered_all) (first ∙ ap (λ z. old ++ mutation_lints env f h z) mutations)
    ∙ append_assoc old found rendered_all
    ∙ ap (λ z. old ++ z) (found_part env f ids g h l cut ∙ ap (λ z. found_lints env f z l) is)
