use Rattle.std.proofs.Common.{◌≡◌, ◌+◌, All, length, map, take, drop}
use Rattle.tf_fold.specs.Bounds.{IsPartWithin}
use Rattle.tf_fold.specs.Parts.{all_joined, part_in}
use Rattle.tf_fold.proofs.parts.add_parts.Given as goal

abbrev pub invariant-loop-at : goal.invariant-loop-at
invariant-loop-at l = record {
  joined : take l.at l.parts ≡ all_joined (take l.at l.initial.parts) (take l.at (map (part_in l.doc) l.aggs));
  rest : drop l.at l.parts ≡ drop l.at l.initial.parts;
  same : length l.parts ≡ length l.initial.parts;
  within : All (IsPartWithin (l.weight + 1)) (take l.at l.parts);
}
