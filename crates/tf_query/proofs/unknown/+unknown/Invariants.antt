use Rattle.std.proofs.Common.{◌≡◌, drop}
use Rattle.std.specs.List.{fold}
use Rattle.tf_query.specs.Unknown.{lesser_text, unknown_members, unknown_items}
use Rattle.tf_query.proofs.unknown.+unknown.Given as goal

abbrev pub invariant-least_in_members-loop-name : goal.invariant-least_in_members-loop-name
invariant-least_in_members-loop-name l =
    fold lesser_text l.least (unknown_members l.form l.path (drop l.name-index l.members)) ≡ fold lesser_text l.initial.least (unknown_members l.form l.path l.members)

abbrev pub invariant-least_in_items-loop-place : goal.invariant-least_in_items-loop-place
invariant-least_in_items-loop-place l =
    fold lesser_text l.least (unknown_items l.place l.path (drop l.place l.items)) ≡ fold lesser_text l.initial.least (unknown_items 0 l.path l.items)
