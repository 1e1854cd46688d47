use Rattle.std.proofs.Common.{◌≡◌, []}
use Rattle.std.specs.List.{fold}
use Rattle.std.specs.Vec.Iter.{into_iter_items}
use Rattle.tf_mapping.specs.Gathering.{again_among}
use Rattle.tf_mapping.specs.Least.{lesser_text, least_text}
use Rattle.tf_mapping.specs.Mappings.{put, fields_of}
use Rattle.tf_mapping.proofs.mappings.sort_fields.Given as goal

abbrev pub invariant-loop-name : goal.invariant-loop-name
invariant-loop-name l = record {
  sorted : fold put l.sorted.entries (fields_of (into_iter_items l.name-iterator)) ≡ fold put [] (fields_of l.fn.fields);
  twice : fold lesser_text l.twice (again_among l.sorted.entries (fields_of (into_iter_items l.name-iterator))) ≡ least_text (again_among [] (fields_of l.fn.fields));
}
