-- One part after the other.
use Rattle.fields_out.specs.laws.Put.{head_put}
use Rattle.fields_out.proofs.record_out.put_head.Goals as goal

pub returns : goal.returns
returns c =
    head_put c.args.sheet.now c.args.out.now
    c.put_two.ensures
    c.put_two-2.ensures
    c.put_two-3.ensures
    c.put_twos.ensures
    c.put_twos-2.ensures
