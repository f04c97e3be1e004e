-- The head, then the tail.
use Rattle.fields_out.specs.laws.Put.{record_put}
use Rattle.fields_out.proofs.record_out.put_record.Goals as goal

pub returns : goal.returns
returns c =
    record_put
    c.args.sheet.now
    c.args.out.now
    c.put_head.ensures
    c.put_tail.ensures
