-- What a form waits for by the messages that it looks at. No public clause names it.
use Rattle.std.specs.Prelude.{ℕ, ⊤}
use Rattle.spi_term.specs.Term.{Message}
use Rattle.spi_term.specs.View.{message}
use Rattle.spi_term.specs.Names.{MessageOver}
use Rattle.spi_term.specs.Substitution.{replace}
use Rattle.spi_intern.specs.declared.messages.MsgId.{MsgId}
use Rattle.spi_intern.specs.declared.messages.MsgPart.{MsgPart}
use Rattle.spi_replay.specs.declared.operands.Lone.{Lone}
use Rattle.spi_replay.specs.declared.operands.Lone.TheVariants.{Takes, TakesAgain, BindsOne, Shows, Splits, Branches}
use Rattle.spi_replay.specs.declared.operands.Joint.{Joint}
use Rattle.spi_replay.specs.declared.operands.Joint.TheVariants.{Puts, Selects, Decrypts, Checks}
use Rattle.spi_replay.specs.declared.operands.Operands.{Operands}
use Rattle.spi_replay.specs.declared.operands.Operands.TheVariants as O
use Rattle.spi_replay.specs.declared.waits.Wait.{Wait}
use Rattle.spi_replay.specs.declared.waits.Wait.TheVariants as W
use Rattle.spi_replay.specs.Waiting.{split_wait, select_wait, decrypt_wait, branch_wait, check_wait}
use Rattle.spi_replay.specs.Moves.{Move, stays, puts, takes, takes_again, binds_one, shows, makes, forks, split_move, select_move, decrypt_move, branch_move, check_move}

-- of one message, by its number and its parts
abbrev pub lone_wait : Lone → MsgId → MsgPart → Wait
lone_wait (Takes i) n p = W.Takes n i
lone_wait (TakesAgain i) n p = W.TakesAgain n i
lone_wait (BindsOne i) n p = W.BindsOne n i
lone_wait (Shows k i) n p = W.Shows k n i
lone_wait (Splits i) n p = split_wait p i
lone_wait (Branches i j) n p = branch_wait p i j

-- by the message
abbrev pub lone_move : Lone → Message → Move
lone_move (Takes i) m = takes m i
lone_move (TakesAgain i) m = takes_again m i
lone_move (BindsOne i) m = binds_one m i
lone_move (Shows k i) m = shows k m i
lone_move (Splits i) m = split_move m i
lone_move (Branches i j) m = branch_move m i j

-- of two messages, by their numbers and the parts of the first
abbrev pub joint_wait : Joint → MsgId → MsgPart → MsgId → Wait
joint_wait Puts n p k = W.Puts n k
joint_wait (Selects i) n p k = select_wait p k i
joint_wait (Decrypts i) n p k = decrypt_wait p k i
joint_wait (Checks i) n p k = check_wait n k i

-- by the messages
abbrev pub joint_move : Joint → Message → Message → Move
joint_move Puts m n = puts m n
joint_move (Selects i) m n = select_move m n i
joint_move (Decrypts i) m n = decrypt_move m n i
joint_move (Checks i) m n = check_move m n i

-- with messages for the names in them
abbrev pub operands_move : (ℕ → Message) → Operands → Move
operands_move f O.Stays = stays
operands_move f (O.Freshes i) = makes i
operands_move f (O.Forks i j) = forks i j
operands_move f (O.One m l) = lone_move l (replace f (message m.now))
operands_move f (O.Two m n j) = joint_move j (replace f (message m.now)) (replace f (message n.now))

-- each name in them is below n
abbrev pub OperandsOver : ℕ → Operands → Type 0
OperandsOver n O.Stays = ⊤
OperandsOver n (O.Freshes i) = ⊤
OperandsOver n (O.Forks i j) = ⊤
OperandsOver n (O.One m l) = MessageOver n 0 (message m.now)
OperandsOver n (O.Two m k j) = MessageOver n 0 (message m.now) × MessageOver n 0 (message k.now)
