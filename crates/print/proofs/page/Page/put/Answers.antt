-- One store prints one byte.
use Rattle.std.proofs.Common.{refl, sym, ◌∙◌}
use Rattle.print.proofs.PutLaws.{put_more, put_none}
use Rattle.print.proofs.page.Page.put.Goals as goal

pub returns : goal.returns
returns c = record { same = refl; ends = refl; shows = sym (put_more _ _ _ _ ∙ put_none _ _) }
