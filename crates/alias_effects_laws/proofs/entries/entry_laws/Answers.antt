-- The entry states of a pass, and its temporaries, name what is there.
use Rattle.std.specs.Prelude.{◌≡◌, true}
use Rattle.alias_effects_laws.proofs.entries.Entries.{entries_named}
use Rattle.alias_effects_laws.proofs.entries.entry_laws.Goals as goal

pub returns : goal.returns
returns c = λ b has w creates ends. entries_named c.args.func.now c.args.env.now b c.requires (λ f. has f ≡ true)
    creates w ends
