-- The slice that is copied has the bytes from `at` on.
use mathlib.Core.Path.{◌∙◌}
use Rattle.entries.specs.laws.Taken.{slice_is_list}
use Rattle.fields.proofs.record_bytes.bytes_at.Goals as goal

pub returns : goal.returns
returns g c = c.copy_from_slice.ensures.after ∙ slice_is_list _ _ 0 _ c.requires
