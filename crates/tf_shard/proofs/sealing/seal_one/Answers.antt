use Rattle.std.proofs.Common.{◌≡◌, ◌-◌, ◌≤◌, length, take, refl, sym, ap, ◌∙◌, arith}
use Rattle.std.proofs.lemmas.List.{length-map, length-take-le}
use Rattle.std.specs.Arc.{arc_value}
use Rattle.tf_segment.specs.Segments.{shared}
use Rattle.tf_shard.specs.Ids.{ids_of}
use Rattle.tf_shard.proofs.Sealed.{docs_stay, full_stay}
use Rattle.tf_shard.proofs.sealing.seal_one.Goals as goal

pub new-requires : goal.new-requires
new-requires c =
    let tail = c.as_slice.result.now in
    ap length c.in_ok-docs.ensures ∙ length-take-le 1024 (shared tail) (omega (arith, c.requires.enough, c.as_slice.ensures.len, length-map tail (λ d. arc_value d)))

pub returns-clause-same : goal.returns-clause-same
returns-clause-same c =
    let items = c.args.parts.now.tail.items in
    let long = ap length c.as_slice.ensures.value in
    let enough : 1024 ≤ length items = omega (arith, c.requires.enough, c.as_slice.ensures.len, long) in
    record {
      docs =
          docs_stay c.args.parts.now.segments.items c.push.new.self.items items c.truncate.new.self.items c.in_ok-segment.segment (c.len.result - 1024)
          c.in_ok-push.ensures.items (c.in_ok-segment.ensures.ok ∙ c.new.ensures ∙ c.in_ok-docs.ensures ∙ ap (λ s. take 1024 (shared s)) c.as_slice.ensures.value)
          enough (omega (arith, c.len.ensures, c.rotate_left.ensures.len, c.as_slice.ensures.len, long)) (c.truncate.ensures.items ∙ ap (take (c.len.result - 1024)) c.rotate_left.ensures.items);
      count = refl;
    }

pub returns-clause-whole : goal.returns-clause-whole
returns-clause-whole c =
    let whole = c.requires.whole in
    let items = c.args.parts.now.tail.items in
    let long = ap length c.as_slice.ensures.value in
    let enough : 1024 ≤ length items = omega (arith, c.requires.enough, c.as_slice.ensures.len, long) in
    let first = c.in_ok-segment.ensures.ok ∙ c.new.ensures ∙ c.in_ok-docs.ensures ∙ ap (λ s. take 1024 (shared s)) c.as_slice.ensures.value in
    let is : c.len.result - 1024 ≡ length items - 1024 = omega (arith, c.len.ensures, c.rotate_left.ensures.len, c.as_slice.ensures.len, long) in
    let rest = c.truncate.ensures.items ∙ ap (take (c.len.result - 1024)) c.rotate_left.ensures.items in
    let docs = docs_stay c.args.parts.now.segments.items c.push.new.self.items items c.truncate.new.self.items c.in_ok-segment.segment (c.len.result - 1024)
    c.in_ok-push.ensures.items first enough is rest in
    record {
      entered = whole.entered ∙ ap ids_of (sym docs);
      counted = whole.counted ∙ ap length (sym docs);
      few = whole.few;
      full = full_stay c.args.parts.now.segments.items c.push.new.self.items items c.truncate.new.self.items c.in_ok-segment.segment (c.len.result - 1024)
          c.in_ok-push.ensures.items first enough is rest whole.full;
      room = omega (arith, whole.room, c.truncate.ensures.len, c.truncate.ensures.capacity, c.rotate_left.ensures.len, c.rotate_left.ensures.capacity, c.len.ensures);
    }
