use Rattle.std.proofs.Common.{◌≡◌, ap, refl, rules, sym}
use Rattle.std.specs.Prelude.{reverse}
use Rattle.tf_store.specs.Words.{file_len, history_of}
use Rattle.tf_serial.specs.Following.{Following, Nothing, followed, moves_of}
use Rattle.tf_serial.proofs.GoingOn.{runs_itself}
use Rattle.tf_serial.proofs.Within.{within_itself}
use Rattle.tf_serial.proofs.commanding.make_following.Goals as goal

pub returns-in_default : goal.returns-in_default
returns-in_default g c =
    let old = c.args.store.now in
    let none : moves_of c.args.op.now ≡ Nothing = search rules in
    record {
      after = sym (ap (λ (f : Following). followed c.args.moment f (reverse (history_of old))) none);
      broken = refl;
      within = within_itself (history_of old) (file_len old);
      stops = tt;
      runs = runs_itself g.D.Disk.meaning old;
    }
