use Rattle.std.proofs.Common.{◌++◌, ◌∷◌, [], length, sym, ap, ◌∙◌, arith}
use Rattle.std.proofs.lemmas.List.{length_push, map_push}
use Rattle.std.specs.Arc.{arc_value}
use Rattle.tf_segment.specs.Segments.{shared}
use Rattle.tf_shard.specs.Ids.{ids_of}
use Rattle.tf_shard.specs.Parts.{docs_of}
use Rattle.tf_shard.proofs.Ids.{next_is}
use Rattle.tf_shard.proofs.Sealed.{docs_push}
use Rattle.tf_shard.proofs.parts.append.Goals as goal

pub returns-clause-whole : goal.returns-clause-whole
returns-clause-whole c =
    let parts = c.args.parts.now in
    let whole = c.requires.whole in
    let doc = arc_value c.args.doc in
    let next = next_is parts.ids.keys parts.count doc.id c.requires.next in
    let docs = docs_push (shared parts.segments.items) parts.tail.items c.push_reserved.new.self.items c.args.doc c.push_reserved.ensures.items in
    record {
      entered = next.1 ∙ ap (λ ids. ids ++ doc.id ∷ []) whole.entered ∙ sym (ap ids_of docs ∙ map_push (λ d. d.id) (docs_of parts) doc);
      counted = omega (arith, whole.counted, ap length docs, length_push (docs_of parts) doc);
      few = omega (arith, c.requires.few);
      full = whole.full;
      room = omega (arith, whole.room, c.push_reserved.ensures.len, c.push_reserved.ensures.capacity);
    }

pub returns-clause-spare : goal.returns-clause-spare
returns-clause-spare c = (next_is c.args.parts.now.ids.keys c.args.parts.now.count (arc_value c.args.doc).id c.requires.next).2
