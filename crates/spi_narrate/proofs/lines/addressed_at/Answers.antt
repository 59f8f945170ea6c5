use Rattle.std.proofs.Common.{◌==◌}
use Rattle.spi_lex.specs.Numbered.{listed}
use Rattle.spi_tree.specs.declared.tree.SMsg.{SMsg}
use Rattle.spi_tree.specs.declared.tree.SWord.{SWord}
use Rattle.spi_tree.specs.Views.{msg_of}
use Rattle.spi_heading.proofs.Calls.{message_within}
use Rattle.spi_heading.proofs.RowParts.{part_fails, part_reads}
use Rattle.spi_heading.proofs.Reached.{begun, ended, then_word, then_token, then_message, no_word, no_token, no_message}
use Rattle.spi_narrate.proofs.LineRows.{addressed_row, addressed_are}
use Rattle.spi_narrate.proofs.lines.addressed_at.Goals as goal

pub returns-in_err-to-clause-read : goal.returns-in_err-to-clause-read
returns-in_err-to-clause-read c =
    part_fails (addressed_are (c.args.version == 2)) (listed c.args.tokens.now) c.args.at (λ (r : SWord × SWord × SMsg). (r.0, r.1, msg_of r.2)) c.in_err-to.field-0.0 c.from_residual.result c.from_residual.ensures.1
    (no_word (begun (c.args.version == 2) (listed c.args.tokens.now) c.args.at addressed_row c.requires.text.words) c.in_err-to.field-0.0 c.in_err-to.ensures.taken)

pub returns-in_err-channel_at-clause-read : goal.returns-in_err-channel_at-clause-read
returns-in_err-channel_at-clause-read c =
    let to = then_word (begun (c.args.version == 2) (listed c.args.tokens.now) c.args.at addressed_row c.requires.text.words) c.in_ok-to.to c.in_ok-to.on c.in_ok-to.ensures.taken in
    part_fails (addressed_are (c.args.version == 2)) (listed c.args.tokens.now) c.args.at (λ (r : SWord × SWord × SMsg). (r.0, r.1, msg_of r.2)) c.in_err-channel_at.field-0.0 c.from_residual-in_err-channel_at.result c.from_residual-in_err-channel_at.ensures.1
    (no_token to c.in_err-channel_at.field-0.0 c.in_err-channel_at.ensures.taken)

pub returns-in_err-channel-clause-read : goal.returns-in_err-channel-clause-read
returns-in_err-channel-clause-read c =
    let to = then_word (begun (c.args.version == 2) (listed c.args.tokens.now) c.args.at addressed_row c.requires.text.words) c.in_ok-to.to c.in_ok-to.on c.in_ok-to.ensures.taken in
    part_fails (addressed_are (c.args.version == 2)) (listed c.args.tokens.now) c.args.at (λ (r : SWord × SWord × SMsg). (r.0, r.1, msg_of r.2)) c.in_err-channel.field-0.0 c.from_residual-in_err-channel.result c.from_residual-in_err-channel.ensures.1
    (no_word (then_token to c.in_ok-channel_at.channel_at c.in_ok-channel_at.ensures.taken) c.in_err-channel.field-0.0 c.in_err-channel.ensures.taken)

pub returns-in_err-datum_at-clause-read : goal.returns-in_err-datum_at-clause-read
returns-in_err-datum_at-clause-read c =
    let to = then_word (begun (c.args.version == 2) (listed c.args.tokens.now) c.args.at addressed_row c.requires.text.words) c.in_ok-to.to c.in_ok-to.on c.in_ok-to.ensures.taken in
    let channel = then_word (then_token to c.in_ok-channel_at.channel_at c.in_ok-channel_at.ensures.taken) c.in_ok-channel.channel c.in_ok-channel.colon c.in_ok-channel.ensures.taken in
    part_fails (addressed_are (c.args.version == 2)) (listed c.args.tokens.now) c.args.at (λ (r : SWord × SWord × SMsg). (r.0, r.1, msg_of r.2)) c.in_err-datum_at.field-0.0 c.from_residual-in_err-datum_at.result c.from_residual-in_err-datum_at.ensures.1
    (no_token channel c.in_err-datum_at.field-0.0 c.in_err-datum_at.ensures.taken)

pub returns-in_err-datum-clause-read : goal.returns-in_err-datum-clause-read
returns-in_err-datum-clause-read c =
    let to = then_word (begun (c.args.version == 2) (listed c.args.tokens.now) c.args.at addressed_row c.requires.text.words) c.in_ok-to.to c.in_ok-to.on c.in_ok-to.ensures.taken in
    let channel = then_word (then_token to c.in_ok-channel_at.channel_at c.in_ok-channel_at.ensures.taken) c.in_ok-channel.channel c.in_ok-channel.colon c.in_ok-channel.ensures.taken in
    part_fails (addressed_are (c.args.version == 2)) (listed c.args.tokens.now) c.args.at (λ (r : SWord × SWord × SMsg). (r.0, r.1, msg_of r.2)) c.in_err-datum.field-0.0 c.from_residual-in_err-datum.result c.from_residual-in_err-datum.ensures.1
    (no_message (then_token channel c.in_ok-datum_at.datum_at c.in_ok-datum_at.ensures.taken) msg_of c.in_err-datum.field-0.0 c.in_err-datum.ensures)

pub returns-clause-read : goal.returns-clause-read
returns-clause-read c =
    let to = then_word (begun (c.args.version == 2) (listed c.args.tokens.now) c.args.at addressed_row c.requires.text.words) c.in_ok-to.to c.in_ok-to.on c.in_ok-to.ensures.taken in
    let channel = then_word (then_token to c.in_ok-channel_at.channel_at c.in_ok-channel_at.ensures.taken) c.in_ok-channel.channel c.in_ok-channel.colon c.in_ok-channel.ensures.taken in
    let datum = then_message (then_token channel c.in_ok-datum_at.datum_at c.in_ok-datum_at.ensures.taken) (msg_of c.in_ok-datum.datum) c.in_ok-datum.next c.in_ok-datum_at.ensures.within c.in_ok-datum.ensures in
    part_reads (addressed_are (c.args.version == 2)) (listed c.args.tokens.now) c.args.at c.requires.text.words (c.in_ok-to.to, c.in_ok-channel.channel, msg_of c.in_ok-datum.datum) c.in_ok-datum.next (ended datum)

pub returns-clause-within : goal.returns-clause-within
returns-clause-within c = message_within (c.args.version == 2) (listed c.args.tokens.now) c.in_ok-datum_at.datum_at (msg_of c.in_ok-datum.datum) c.in_ok-datum.next c.in_ok-datum_at.ensures.within c.in_ok-datum.ensures
