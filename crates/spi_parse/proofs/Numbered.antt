-- An answer on the tokens from a number on is what reading gives there.
use Rattle.std.proofs.Common.{◌≡◌, ℕ, ◌≤◌, Bool, false, ◌-◌, List, map, drop, length, Result, Ok, Err, refl, sym, ap, subst, ◌∙◌, arith, length-append, length-drop, drop-drop, [], ◌∷◌, ◌++◌, ◌+◌, IfOk}
use Rattle.std.specs.Prelude.{MatchResult}
use Rattle.spi_lex.specs.declared.token.Token.{Token}
use Rattle.spi_lex.specs.Lexing.{kinds_of}
use Rattle.spi_tree.specs.Trees as t
use Rattle.spi_tree.specs.Formed.{AreWordsFit}
use Rattle.spi_parse.specs.declared.cursor.Reader.{Reader}
use Rattle.spi_parse.specs.declared.fault.Stop.{Stop}
use Rattle.spi_parse.specs.declared.fault.ParseFault.{ParseFault}
use Rattle.spi_parse.specs.Faults.{fault_of_stop}
use Rattle.spi_parse.specs.Tokens.{State, tok}
use Rattle.spi_parse.specs.Places.{state_of, tokens_in, IsBehind}
use Rattle.spi_parse.specs.Formed.{whole_decl, whole_type, whole_message, whole_process, IsWholeDecl, IsWholeType, IsWholeMessage, IsWholeProcess}
use Rattle.spi_parse.specs.Table.{Sym, Tree, msg, ty, decl, sproc}
use Rattle.spi_parse.specs.Exact.{Reads}
use Rattle.spi_parse.specs.Reading.{Out, Fails, Gives, read, limited}
use Rattle.spi_parse.proofs.Readers.{at}
use Rattle.spi_parse.proofs.Sound.{is_sound}
use Rattle.spi_parse.proofs.TableLaws.{table_ok}
use Rattle.spi_parse.proofs.Wholes.{front_of, decl_ok, decl_err, type_ok, type_err, message_ok, message_err, process_ok, process_err}

pub state_is : (r : Reader) → state_of r ≡ at r.end (map tok (tokens_in r))
state_is r = refl

drop_front : (front rest : List Token) → drop (length front) (front ++ rest) ≡ rest
drop_front [] rest = refl
drop_front (t ∷ ts) rest = drop_front ts rest

-- what reading leaves are the tokens from some number on
left_behind : (a : Sym) (ts rest : List Token) (x : Tree a) (e : ℕ) → read limited a (at 0 (map tok ts)) ≡ Ok (x, at e (map tok rest)) → (n : ℕ) × (n ≤ length ts) × (rest ≡ drop n ts)
left_behind a ts rest x e is =
    let lies = ((is_sound table_ok).by a (at 0 (map tok ts)) (x, at e (map tok rest)) is).1 [] in
    let front = front_of ts lies.pre rest lies.split in
    let len : length ts ≡ length front.0 + length rest = ap length front.1 ∙ length-append front.0 rest in
    (length front.0, omega arith, sym (ap (drop (length front.0)) front.1 ∙ drop_front front.0 rest))

-- the answer, by the numbers of tokens, where reading from a place answered so and so many are left
abbrev IsNumberedAnswer : {V : Type 0} → ℕ → ℕ → Result V Stop → Result (V × ℕ) ParseFault → Type 0
IsNumberedAnswer count left r y = MatchResult r (λ x. y ≡ Ok (x, count - left)) (λ e. y ≡ Err (fault_of_stop count e))

module _ (tokens : List Token) (from : ℕ) (start : State) (after : Reader) (begins : start ≡ at 0 (map tok (drop from tokens))) where
  module _ {V T : Type 0} (view : V → T) (reads : State → Out T) (Answers : Result (V × ℕ) ParseFault → Type 0)
      (ok : (x : V) (e : ℕ) (rest : List Token) → reads (at 0 (map tok (drop from tokens))) ≡ Ok (view x, at e (map tok rest)) → Answers (Ok (x, length tokens - length rest)))
      (err : (stop : Stop) → Fails stop (reads (at 0 (map tok (drop from tokens)))) → Answers (Err (fault_of_stop (length tokens) stop))) where
    by_number : (r : Result V Stop) (y : Result (V × ℕ) ParseFault) → Gives {X = V} {Y = T × State} (λ x. (view x, state_of after)) r (reads start) → IsNumberedAnswer (length tokens) (length (tokens_in after)) r y → Answers y
    by_number (Ok x) y gives is =
        let there = subst (λ (s : State). reads s ≡ Ok (view x, state_of after)) begins gives ∙ ap (λ (s : State). Ok (view x, s)) (state_is after) in
        subst Answers (sym is) (ok x after.end (tokens_in after) there)
    by_number (Err stop) y gives is =
        let there = subst (λ (s : State). Fails stop (reads s)) begins gives in
        subst Answers (sym is) (err stop there)

  module _ (v : Bool) (within : from ≤ length tokens) (fit : AreWordsFit v (kinds_of tokens)) {V : Type 0} where
    pub decl_answer : (view : V → t.Declared) (r : Result V Stop) (y : Result (V × ℕ) ParseFault) → Gives {X = V} {Y = t.Declared × State} (λ x. (view x, state_of after)) r (read limited (decl v) start) → IsNumberedAnswer (length tokens) (length (tokens_in after)) r y → Reads view whole_decl (IsWholeDecl v) y tokens from
    decl_answer view r y gives is = by_number view (read limited (decl v)) (λ z. Reads view whole_decl (IsWholeDecl v) z tokens from) (decl_ok v tokens from within fit view) (decl_err v tokens from within fit view) r y gives is

    pub type_answer : (view : V → t.Ty) (r : Result V Stop) (y : Result (V × ℕ) ParseFault) → Gives {X = V} {Y = t.Ty × State} (λ x. (view x, state_of after)) r (read limited (ty v 1) start) → IsNumberedAnswer (length tokens) (length (tokens_in after)) r y → Reads view whole_type (IsWholeType v) y tokens from
    type_answer view r y gives is = by_number view (read limited (ty v 1)) (λ z. Reads view whole_type (IsWholeType v) z tokens from) (type_ok v tokens from within fit view) (type_err v tokens from within fit view) r y gives is

    pub message_answer : (view : V → t.Msg) (r : Result V Stop) (y : Result (V × ℕ) ParseFault) → Gives {X = V} {Y = t.Msg × State} (λ x. (view x, state_of after)) r (read limited (msg v false 1) start) → IsNumberedAnswer (length tokens) (length (tokens_in after)) r y → Reads view whole_message (IsWholeMessage v) y tokens from
    message_answer view r y gives is = by_number view (read limited (msg v false 1)) (λ z. Reads view whole_message (IsWholeMessage v) z tokens from) (message_ok v tokens from within fit view) (message_err v tokens from within fit view) r y gives is

    pub process_answer : (view : V → t.Proc) (r : Result V Stop) (y : Result (V × ℕ) ParseFault) → Gives {X = V} {Y = t.Proc × State} (λ x. (view x, state_of after)) r (read limited (sproc v 0) start) → IsNumberedAnswer (length tokens) (length (tokens_in after)) r y → Reads view whole_process (IsWholeProcess v) y tokens from
    process_answer view r y gives is = by_number view (read limited (sproc v 0)) (λ z. Reads view whole_process (IsWholeProcess v) z tokens from) (process_ok v tokens from within fit view) (process_err v tokens from within fit view) r y gives is

    pub behind_read : (a : Sym) (view : V → Tree a) (r : Result V Stop) → Gives {X = V} {Y = Tree a × State} (λ x. (view x, state_of after)) r (read limited a start) → IfOk r (λ x. IsBehind tokens from (tokens_in after))
    behind_read a view (Ok x) gives =
        let there = subst (λ (s : State). read limited a s ≡ Ok (view x, state_of after)) begins gives ∙ ap (λ (s : State). Ok (view x, s)) (state_is after) in
        let n = left_behind a (drop from tokens) (tokens_in after) (view x) after.end there in
        let few = n.1 in
        let len : length (drop from tokens) ≡ length tokens - from = length-drop from tokens in
        (from + n.0, omega arith, omega arith, n.2 ∙ drop-drop n.0 from tokens)
    behind_read a view (Err stop) gives = tt
