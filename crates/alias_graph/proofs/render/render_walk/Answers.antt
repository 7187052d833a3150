use Rattle.std.proofs.Common.{◌≡◌, ◌+◌, ◌++◌, ◌∷◌, [], false, replicate, vec_capacity, ap, sym, ◌∙◌, arith}
use Rattle.alias_graph.specs.Flat.{nodes_of}
use Rattle.alias_graph.specs.Links.{all_links}
use Rattle.alias_graph.specs.Renders.{render_to, render_reports}
use Rattle.alias_graph.specs.Reports.{with_reports}
use Rattle.alias_graph.proofs.FlatWalk.{links_kept}
use Rattle.alias_graph.proofs.Flats.{length_of_nodes}
use Rattle.alias_graph.proofs.Lighting.{renders_few}
use Rattle.alias_graph.proofs.Rendering.{claim_slot, rendering_begins, rendering_same, rendering_skips}
use Rattle.alias_graph.proofs.Rendering.{rendering_expands, rendered_kept, rendered_more, render_room, render_ends}
use Rattle.alias_graph.proofs.Rendering.{render_tells, tells_none, grown_on, other_kept}
use Rattle.alias_graph.proofs.ReportLaws.{refused}
use Rattle.alias_graph.proofs.Walking.{no_items}
use Rattle.alias_graph.proofs.render.render_walk.Goals as goal
use Rattle.alias_graph.proofs.render.render_walk.Goals.{in-Some-claim_lit+in_ok-render_at, in_default-claim_lit}

pub loop-init : goal.loop-init
loop-init c =
    let g = nodes_of c.args.links.now c.args.nodes.now in
    let kept = links_kept c.args.links.now c.args.nodes.now in (
      rendering_same g c.args.index c.args.start _ _ 0 (rendering_begins g c.args.index c.args.start) _ _
          (c.in_ok-seen.ensures.items_if_clones_equal (λ y e. e)
          ∙ ap (λ n. replicate n false) (c.len.ensures ∙ sym (length_of_nodes c.args.links.now c.args.nodes.now)))
          (c.put_id.ensures.items ∙ ap (λ z. z ++ c.args.start ∷ []) c.in_ok-stack.ensures.items),
      omega (
        arith,
        kept,
        c.put_id.ensures.capacity,
        c.in_ok-stack.ensures.capacity,
        c.in_ok-room.ensures,
        c.len.ensures,
        c.requires.fit.twice,
      ),
      tells_none c.args.env.now,
    )

pub returns-in_default-clause-env : goal.returns-in_default-clause-env
returns-in_default-clause-env c =
    let g = nodes_of c.args.links.now c.args.nodes.now in
    let empty : c.loop.stack.items ≡ [] = no_items c.loop.stack.items
    (omega (arith, c.loop.stack.ok.0, c.in_default.ensures.cases.0)) in
    c.loop.invariant.2 ∙ ap (λ w. with_reports (render_reports c.args.env.now g w.done) c.args.env.now)
    (sym (render_ends g c.args.index c.args.start _ _ _ c.loop.invariant.0 empty))

pub claim_lit-requires : goal.claim_lit-requires
claim_lit-requires c = c.loop.invariant.0.flags.size ∙ length_of_nodes c.args.links.now c.args.nodes.now

pub render_at-requires-clause-room : goal.render_at-requires-clause-room
render_at-requires-clause-room c =
    let g = nodes_of c.args.links.now c.args.nodes.now in
    let claim = claim_slot c.args.links.now c.args.nodes.now c.in-Some.id c.loop.seen.items
    ∙ sym c.in-Some-claim_lit.ensures.claim in
    let fits = render_room g c.args.index c.args.start _ _ _ _ _ c.loop.invariant.0 c.in-Some.ensures.items _ claim in
    omega (arith, fits, c.pop.new.self.ok.0, c.in-Some.ensures.capacity, c.loop.invariant.1)

pub returns-in_err-render_at-clause-err : goal.returns-in_err-render_at-clause-err
returns-in_err-render_at-clause-err c = refused _
    (other_kept c.args.env.now c.loop.env c.render_at.new.env _ c.loop.invariant.2 c.in_err-render_at.ensures.err)

pub returns-in_err-render_at-clause-grown : goal.returns-in_err-render_at-clause-grown
returns-in_err-render_at-clause-grown c =
    refused _ (grown_on c.args.env.now c.loop.env c.render_at.new.env _ c.loop.invariant.2
    c.in_err-render_at.ensures.grown)

pub loop-preserved : goal.loop-preserved
loop-preserved c =
    let g = nodes_of c.args.links.now c.args.nodes.now in
    let slots = claim_slot c.args.links.now c.args.nodes.now c.in-Some.id c.loop.seen.items in
    elim c.match-claim_lit.branch [
      | in-Some-claim_lit+in_ok-render_at w ↦
          let room : vec_capacity c.match-claim_lit.stack ≡ vec_capacity w.render_at.new.stack =
          ap (λ z. vec_capacity z) w.stack-is in
          let claim = slots ∙ sym w.in-Some-claim_lit.ensures.claim in
          let more = rendering_expands g c.args.index c.args.start _ _ _ _ _ c.loop.invariant.0 c.in-Some.ensures.items
          _ claim in
          let tells = render_tells c.args.env.now c.loop.env w.render_at.new.env c.args.links.now c.args.nodes.now
          (render_to g c.args.index c.args.start c.loop.counter).done c.in-Some.id c.loop.invariant.2
          w.in_ok-render_at.ensures.env in (
            rendering_same g c.args.index c.args.start _ _ _ more _ _ w.in-Some-claim_lit.ensures.noted
                (ap (λ z. z.items) w.stack-is ∙ w.in_ok-render_at.ensures.items),
            omega (arith, c.loop.invariant.1, c.in-Some.ensures.capacity, w.in_ok-render_at.ensures.capacity, room),
            w.env-is ∙ tells ∙ ap (λ d. with_reports (render_reports c.args.env.now g d) c.args.env.now)
                (sym (rendered_more g c.args.index c.args.start _ _ _ _ _ c.loop.invariant.0 c.in-Some.ensures.items _
                claim)),
          )
      | in_default-claim_lit w ↦
          let room : vec_capacity c.match-claim_lit.stack ≡ vec_capacity c.pop.new.self =
          ap (λ z. vec_capacity z) w.stack-is in
          let claim = slots ∙ sym w.in_default-claim_lit.ensures.claim in
          let more = rendering_skips g c.args.index c.args.start _ _ _ _ _ c.loop.invariant.0 c.in-Some.ensures.items
          claim in (
            rendering_same g c.args.index c.args.start _ _ _ more _ _ w.in_default-claim_lit.ensures.noted
                (ap (λ z. z.items) w.stack-is),
            omega (arith, c.loop.invariant.1, c.in-Some.ensures.capacity, room),
            w.env-is ∙ c.loop.invariant.2 ∙ ap (λ d. with_reports (render_reports c.args.env.now g d) c.args.env.now)
                (sym (rendered_kept g c.args.index c.args.start _ _ _ _ _ c.loop.invariant.0 c.in-Some.ensures.items
                claim)),
          )
    ]

pub returns-clause-env : goal.returns-clause-env
returns-clause-env c =
    let g = nodes_of c.args.links.now c.args.nodes.now in
    let kept = links_kept c.args.links.now c.args.nodes.now in
    let few = renders_few g c.args.index c.args.start c.loop.counter in
    let pops = c.loop.invariant.0.popped_is in
    let whole : c.loop.counter ≡ 1 + all_links g =
    omega (
      arith,
      kept,
      few,
      pops,
      c.in_ok-room.ensures,
      c.loop.auto.counter-end,
      c.loop-test.false,
      c.requires.fit.twice,
    ) in
    c.loop.invariant.2 ∙ ap (λ n. with_reports
    (render_reports c.args.env.now g (render_to g c.args.index c.args.start n).done) c.args.env.now) whole
