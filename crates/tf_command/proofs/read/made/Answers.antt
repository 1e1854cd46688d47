use Rattle.std.proofs.Common.{ap, sym, subst, ◌∙◌}
use Rattle.tf_command.specs.Commands.{parts_from}
use Rattle.tf_command.specs.Formed.{IsFormed}
use Rattle.tf_command.proofs.FormedLaws.{formed}
use Rattle.tf_command.proofs.read.made.Goals as goal

pub of-requires : goal.of-requires
of-requires c =
    subst IsFormed (sym (c.parts_from-parts.ensures ∙ ap (parts_from c.args.number c.args.name) c.in_ok-placed.ensures))
    (formed c.args.number c.args.name c.args.members c.requires.complete c.requires.good c.requires.lines)
