-- A slice of N bytes is written.
use mathlib.Core.Path.{sym, ◌∙◌}
use Rattle.entries.specs.laws.Put.{slice_written}
use Rattle.fields.specs.laws.Lengths.{bytes_length, bytes_are}
use Rattle.fields_out.proofs.record_out.put_bytes.Goals as goal

pub returns : goal.returns
returns g c = slice_written _ _ _ _ (c.copy_from_slice.ensures.after ∙ sym (bytes_are g.row.N _ c.told-from)) (bytes_length g.row.N c.args.from.now) c.requires
