use Rattle.std.proofs.Common.{arith}
use Rattle.spi_intern.specs.Messages.{says_pair, says_left, says_right, says_enc, says_hash}
use Rattle.spi_intern.proofs.Tables.{keeps_more}
use Rattle.spi_intern.proofs.MessageLaws.{says_it}
use Rattle.spi_intern.proofs.messages.Messages.+intern.Goals as goal

pub intern_parts-put_pair-requires : goal.intern_parts-put_pair-requires
intern_parts-put_pair-requires t c = says_it (says_pair (c.in_ok-second-in-Pair.ensures.kept.at _ _ c.in_ok-first-in-Pair.ensures.at) c.in_ok-second-in-Pair.ensures.at)

pub intern_parts-returns-in_ok-second-in-Pair : goal.intern_parts-returns-in_ok-second-in-Pair
intern_parts-returns-in_ok-second-in-Pair t c = let f = c.in_ok-second-in-Pair.ensures.kept.at _ _ c.in_ok-first-in-Pair.ensures.at in record { grows = grind (arith, f); at = grind (arith, f); kept = keeps_more c.in_ok-first-in-Pair.ensures.kept (keeps_more c.in_ok-second-in-Pair.ensures.kept c.put_pair.ensures.kept); distinct = c.put_pair.ensures.distinct }

pub intern_parts-put_enc-requires : goal.intern_parts-put_enc-requires
intern_parts-put_enc-requires t c = says_it (says_enc (c.in_ok-key-in-Enc.ensures.kept.at _ _ c.in_ok-body-in-Enc.ensures.at) c.in_ok-key-in-Enc.ensures.at)

pub intern_parts-returns-in_ok-key-in-Enc : goal.intern_parts-returns-in_ok-key-in-Enc
intern_parts-returns-in_ok-key-in-Enc t c = let f = c.in_ok-key-in-Enc.ensures.kept.at _ _ c.in_ok-body-in-Enc.ensures.at in record { grows = grind (arith, f); at = grind (arith, f); kept = keeps_more c.in_ok-body-in-Enc.ensures.kept (keeps_more c.in_ok-key-in-Enc.ensures.kept c.put_enc.ensures.kept); distinct = c.put_enc.ensures.distinct }

pub intern_parts-put_left-requires : goal.intern_parts-put_left-requires
intern_parts-put_left-requires t c = says_it (says_left c.in_ok-part-in-Inl.ensures.at)

pub intern_parts-put_right-requires : goal.intern_parts-put_right-requires
intern_parts-put_right-requires t c = says_it (says_right c.in_ok-part-in-Inr.ensures.at)

pub intern_parts-put_hash-requires : goal.intern_parts-put_hash-requires
intern_parts-put_hash-requires t c = says_it (says_hash c.in_ok-part-in-Hash.ensures.at)
