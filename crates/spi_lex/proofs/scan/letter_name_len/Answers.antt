use Rattle.spi_lex.proofs.Plain.{letter_cut, letter_front}
use Rattle.spi_lex.proofs.scan.letter_name_len.Goals as goal

pub split_at-requires : goal.split_at-requires
split_at-requires c = letter_cut c.args.text.now c.utf8.text c.requires.some c.requires.letter

pub returns : goal.returns
returns c =
    letter_front c.args.text.now c.split_at.result.1.now c.after_name.result.now c.utf8.text c.after_name.utf8 c.requires.some
    c.requires.letter c.split_at.ensures.back c.after_name.ensures
