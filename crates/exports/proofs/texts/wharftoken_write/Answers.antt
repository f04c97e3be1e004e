-- What the writer answers, packed.
use Rattle.exports.specs.laws.Written.{write_packs}
use Rattle.exports.proofs.texts.wharftoken_write.Goals as goal

pub pack_answer-requires : goal.pack_answer-requires
pack_answer-requires c = write_packs _ _ c.record_in.ensures c.write-written.ensures.0
