use Rattle.std.proofs.Common.{◌≡◌, ◌++◌, ◌∷◌, [], sym, ◌∙◌}
use Rattle.alias_apply.specs.freezing.Contexts.{context_of}
use Rattle.alias_apply.specs.declared.freezing.tasks.Task.TheVariants.{AtPlace, AtSite}
use Rattle.alias_apply.specs.freezing.TaskLaws.{popped, finish-top, finish-idle, finish-site, lighter-site}
use Rattle.alias_apply.specs.freezing.TaskLaws.{lighter-place}
use Rattle.alias_apply.proofs.freezing.transitive.next_freezing.Goals as goal

pub returns-then-does_freeze : goal.returns-then-does_freeze
returns-then-does_freeze c =
    let top : c.tasks.stack.items ≡ c.pop.new.self.items ++ AtPlace c.in-AtPlace.place ∷ [] =
    popped _ c.pop.new.self.items c.pop.result c.in-Some.task (AtPlace c.in-AtPlace.place) c.pop.ensures.items
    c.in-Some.is c.in-AtPlace.is in (
      sym c.does_freeze.ensures ∙ c.if-does_freeze.true,
      c.tasks.invariant ∙ finish-top (context_of c.args.env.now) c.args.reason c.tasks.stack.items c.pop.new.self.items
          c.in-AtPlace.place c.args.state.now top,
    )

pub tasks-smaller-else-does_freeze : goal.tasks-smaller-else-does_freeze
tasks-smaller-else-does_freeze c =
    let top : c.tasks.stack.items ≡ c.pop.new.self.items ++ AtPlace c.in-AtPlace.place ∷ [] =
    popped _ c.pop.new.self.items c.pop.result c.in-Some.task (AtPlace c.in-AtPlace.place) c.pop.ensures.items
    c.in-Some.is c.in-AtPlace.is in
    lighter-place (context_of c.args.env.now) c.tasks.stack.items c.pop.new.self.items c.in-AtPlace.place top

pub tasks-preserved-else-does_freeze : goal.tasks-preserved-else-does_freeze
tasks-preserved-else-does_freeze c =
    let top : c.tasks.stack.items ≡ c.pop.new.self.items ++ AtPlace c.in-AtPlace.place ∷ [] =
    popped _ c.pop.new.self.items c.pop.result c.in-Some.task (AtPlace c.in-AtPlace.place) c.pop.ensures.items
    c.in-Some.is c.in-AtPlace.is in
    c.tasks.invariant ∙ finish-idle (context_of c.args.env.now) c.args.reason c.tasks.stack.items c.pop.new.self.items
    c.in-AtPlace.place c.args.state.now (sym c.does_freeze.ensures ∙ c.if-does_freeze.false) top

pub tasks-smaller : goal.tasks-smaller
tasks-smaller c =
    let top : c.tasks.stack.items ≡ c.pop.new.self.items ++ AtSite c.in-AtSite.site ∷ [] =
    popped _ c.pop.new.self.items c.pop.result c.in-Some.task (AtSite c.in-AtSite.site) c.pop.ensures.items
    c.in-Some.is c.in-AtSite.is in
    lighter-site (context_of c.args.env.now) c.tasks.stack.items c.pop.new.self.items c.push_context.new.stack.items
    c.in-AtSite.site top c.in_ok-push_context-in-AtSite.ensures

pub tasks-preserved : goal.tasks-preserved
tasks-preserved c =
    let top : c.tasks.stack.items ≡ c.pop.new.self.items ++ AtSite c.in-AtSite.site ∷ [] =
    popped _ c.pop.new.self.items c.pop.result c.in-Some.task (AtSite c.in-AtSite.site) c.pop.ensures.items
    c.in-Some.is c.in-AtSite.is in
    c.tasks.invariant ∙ finish-site (context_of c.args.env.now) c.args.reason c.tasks.stack.items c.pop.new.self.items
    c.push_context.new.stack.items c.in-AtSite.site c.args.state.now c.requires top
    c.in_ok-push_context-in-AtSite.ensures
