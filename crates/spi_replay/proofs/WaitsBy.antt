-- What a form waits for by the numbers of the messages that it looks at.
use Rattle.std.proofs.Common.{◌≡◌, ℕ, List, sym, subst}
use Rattle.spi_term.specs.Term.{Message}
use Rattle.spi_term.specs.Substitution.{replace}
use Rattle.spi_term.specs.Spelling.{Shape}
use Rattle.spi_intern.specs.Table.{AllDiffer}
use Rattle.spi_intern.specs.Messages.{Says}
use Rattle.spi_intern.specs.declared.messages.MsgId.{MsgId}
use Rattle.spi_intern.specs.declared.messages.MsgPart.{MsgPart}
use Rattle.spi_replay.specs.declared.names.Link.{Link}
use Rattle.spi_replay.specs.declared.names.Scope.{Scope}
use Rattle.spi_replay.specs.declared.operands.Lone.{Lone}
use Rattle.spi_replay.specs.declared.operands.Lone.TheVariants.{Takes, TakesAgain, BindsOne, Shows, Splits, Branches}
use Rattle.spi_replay.specs.declared.operands.Joint.{Joint}
use Rattle.spi_replay.specs.declared.operands.Joint.TheVariants.{Puts, Selects, Decrypts, Checks}
use Rattle.spi_replay.specs.declared.waits.Wait.{Wait}
use Rattle.spi_replay.specs.Holding.{value}
use Rattle.spi_replay.specs.Operands.{lone_wait, lone_move, joint_wait, joint_move}
use Rattle.spi_replay.specs.Moves.{Move, move_of, Numbers, Waits, w_puts, w_takes, w_takes_again, w_binds_one, w_shows}
use Rattle.spi_replay.specs.Standing.{IsInstance, WaitsFor}
use Rattle.spi_replay.proofs.Waited.{split_waits, branch_waits, select_waits, decrypt_waits, check_waits}

lone_waits : {ms : List Message} (l : Lone) (n : MsgId) (p : MsgPart) (m : Message) → Numbers ms n m → Says ms p m → Waits ms (lone_wait l n p) (lone_move l m)
lone_waits (Takes i) n p m x s = w_takes x
lone_waits (TakesAgain i) n p m x s = w_takes_again x
lone_waits (BindsOne i) n p m x s = w_binds_one x
lone_waits (Shows k i) n p m x s = w_shows x
lone_waits (Splits i) n p m x s = split_waits i s
lone_waits (Branches i j) n p m x s = branch_waits i j s

joint_waits : {ms : List Message} (j : Joint) (a : MsgId) (p : MsgPart) (b : MsgId) (m n : Message) → AllDiffer ms → Numbers ms a m → Numbers ms b n → Says ms p m → Waits ms (joint_wait j a p b) (joint_move j m n)
joint_waits Puts a p b m n d x y s = w_puts x y
joint_waits (Selects i) a p b m n d x y s = select_waits b i d y s
joint_waits (Decrypts i) a p b m n d x y s = decrypt_waits b i d y s
joint_waits (Checks i) a p b m n d x y s = check_waits a b i d x y

pub lone_for : {old new : List Message} {ls : List Link} {sc : Scope} {m : Message} (l : Lone) (id : MsgId) (p : MsgPart) (w : Wait) → IsInstance old new ls sc m id → ((n : Message) → Numbers new id n → Says new p n) → w ≡ lone_wait l id p → WaitsFor old new ls sc (λ f. lone_move l (replace f m)) w
lone_for {new = new} {sc = sc} {m = m} l id p w x s e = record { at = λ vs h. subst (λ v. Waits new v (lone_move l (replace (value sc.free vs) m))) (sym e) (lone_waits l id p _ (x.at vs h) (s _ (x.at vs h))) }

pub joint_for : {old new : List Message} {ls : List Link} {sc : Scope} {m n : Message} (j : Joint) (id : MsgId) (p : MsgPart) (other : MsgId) (w : Wait) → AllDiffer new → IsInstance old new ls sc m id → IsInstance old new ls sc n other → ((k : Message) → Numbers new id k → Says new p k) → w ≡ joint_wait j id p other → WaitsFor old new ls sc (λ f. joint_move j (replace f m) (replace f n)) w
joint_for {new = new} {sc = sc} {m = m} {n = n} j id p other w d x y s e = record { at = λ vs h. subst (λ v. Waits new v (joint_move j (replace (value sc.free vs) m) (replace (value sc.free vs) n))) (sym e) (joint_waits j id p other _ _ d (x.at vs h) (y.at vs h) (s _ (x.at vs h))) }

-- a form that waits for what g says
pub waits_by : {old new : List Message} {ls : List Link} {sc : Scope} (x : Shape) {w : Wait} (g : (ℕ → Message) → Move) → ((f : ℕ → Message) → g f ≡ move_of f x) → WaitsFor old new ls sc g w → WaitsFor old new ls sc (λ f. move_of f x) w
waits_by {new = new} {sc = sc} x {w = w} g e h = record { at = λ vs s. subst (Waits new w) (e (value sc.free vs)) (h.at vs s) }
