use Rattle.std.proofs.Common.{◌≡◌, ◌-◌, ◌≤◌, take, length, arith, rules}
use Rattle.tf_journal.proofs.Fronts.{front_put, reads_on}
use Rattle.tf_journal.proofs.reads.read_on.Goals as goal

pub returns-in-Ok-clause-front : goal.returns-in-Ok-clause-front
returns-in-Ok-clause-front g c =
    let before = take c.args.at c.args.buf.now in
    let count = c.in-Ok.count in
    let buf = c.read.new.buf in
    let room : length buf ≡ length c.args.buf.now - c.args.at = search rules in
    let within : count ≤ length buf = search rules in
    let longer = front_put c.args.at (length c.args.buf.now - c.args.at) count c.args.buf.now buf (omega (arith, c.requires)) within in
    reads_on (g.D.Disk.meaning.seen c.args.disk.now) before _ buf c.args.at count c.in-Ok.ensures.bytes (search rules) (omega (arith, c.requires, room)) within longer
