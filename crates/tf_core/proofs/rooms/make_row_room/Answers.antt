use Rattle.std.proofs.Common.{◌<◌, ◌∙◌, length, arith, refl, subst}
use Rattle.tf_core.specs.Chain.{HasRowRoom, all_paged}
use Rattle.tf_core.specs.Rooms.{SameButRoom}
use Rattle.tf_core.proofs.Mapped.{get_or_any}
use Rattle.tf_core.proofs.SameTables.{first_more, tables_itself, tables_set}
use Rattle.tf_core.proofs.rooms.make_row_room.Goals as goal

pub loop-at-init : goal.loop-at-init
loop-at-init c = record { same = tables_itself c.args.transforms.now.items; len = refl; room = tt }

pub returns-in_err-make_room_in-clause-same : goal.returns-in_err-make_room_in-clause-same
returns-in_err-make_room_in-clause-same c =
    let l = c.loop-at in
    let old = c.index_mut.result.now in
    let new = c.make_room_in.new.transform in
    let low : l.at < length l.transforms.items = omega (arith, c.loop-at-test.true, c.len-at-end.ensures, l.invariant.len, l.transforms.ok.0) in
    tables_set c.args.transforms.now.items l.transforms.items l.at new l.invariant.same low (subst (λ t. SameButRoom t new) (c.index_mut.ensures.value ∙ get_or_any l.transforms.items l.at old new low) c.make_room_in.ensures.same)

pub loop-at-preserved : goal.loop-at-preserved
loop-at-preserved c =
    let l = c.loop-at in
    let old = c.index_mut.result.now in
    let new = c.make_room_in.new.transform in
    let low : l.at < length l.transforms.items = omega (arith, c.loop-at-test.true, c.len-at-end.ensures, l.invariant.len, l.transforms.ok.0) in
    record {
      same = tables_set c.args.transforms.now.items l.transforms.items l.at new l.invariant.same low (subst (λ t. SameButRoom t new) (c.index_mut.ensures.value ∙ get_or_any l.transforms.items l.at old new low) c.make_room_in.ensures.same);
      len = l.invariant.len;
      room = first_more (HasRowRoom (all_paged c.args.steps.now)) l.transforms.items l.at new l.invariant.room c.in_ok-make_room_in.ensures.room low;
    }
