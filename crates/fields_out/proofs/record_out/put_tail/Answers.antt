-- One part after the other.
use Rattle.fields_out.specs.laws.Put.{tail_put}
use Rattle.fields_out.proofs.record_out.put_tail.Goals as goal

pub returns : goal.returns
returns c =
    tail_put c.args.sheet.now c.args.out.now
    c.put_bytes.ensures
    c.put_bytes-2.ensures
    c.put_bytes-3.ensures
    c.put_bytes-4.ensures
    c.put_bytes-5.ensures
    c.put_bytes-6.ensures
