-- The generated file of so many sessions is formed, and that of one session is the handshake as it is written.
use Rattle.std.proofs.Common.{◌≡◌, ℕ, ◌+◌, Bool, true, false, Some, ◌&&◌, List, [], ◌∷◌, ◌++◌, None, Ok, refl, sym, ap, subst, ◌∙◌, inl, arith}
use Rattle.std.specs.List.{AllByRecursion}
use Rattle.std.proofs.lemmas.Bool.{and_parts}
use Rattle.spi_lex.specs.declared.token.Kind.{Kind}
use Rattle.spi_lex.specs.declared.token.Kind.TheVariants as kinds
use Rattle.spi_lex.specs.declared.token.Token.{Token}
use Rattle.spi_lex.specs.Lexing.{Lexes, kinds_of}
use Rattle.spi_lex.specs.declared.token.Reserved.{Reserved}
use Rattle.spi_lex.specs.declared.token.Reserved.TheVariants as word
use Rattle.spi_lex.specs.Words.{version_1, word_of, word_bytes}
use Rattle.spi_lex.specs.Writing.{first_version, IsKind}
use Rattle.spi_lex.proofs.Writing.{reads_back}
use Rattle.spi_tree.specs.Trees as t
use Rattle.spi_tree.specs.Pieces.{Piece, closes, Place, in_seq, at_level, below, beside_place, proc_pieces, decls_pieces, a_reserved, kinds_in, tokens_of}
use Rattle.spi_tree.specs.Formed.{IsMsg, IsProc, IsFormed, AreWordsFit}
use Rattle.spi_gen.specs.Handshake.{label, handshake, answering, checking, asking, declarations}
use Rattle.spi_gen.specs.Sessions.{AreBeside, one_session, two_halves, AreGrouped, alone, in_parentheses, IsSessions}
use Rattle.spi_spell.specs.Generated.{handshake_text}
use Rattle.spi_spell.proofs.Scanned.{writes, words_fit}
use Rattle.spi_tree.specs.Trees.{nowhere}

-- ---- its processes are formed

label_formed : IsMsg false false label
label_formed = (refl, refl, (refl, tt))

answering_formed : (n : ℕ) → IsProc false (in_seq n) answering
answering_formed n = (refl, tt, (tt, (label_formed, (refl, (label_formed, tt), (refl, ((refl, refl, tt), refl))))))

checking_formed : (n : ℕ) → IsProc false (in_seq n) checking
checking_formed n = (refl, tt, (label_formed, tt), (refl, refl, (label_formed, tt)))

asking_formed : (n : ℕ) → IsProc false (at_level n) asking
asking_formed n = (tt, (refl, refl, (refl, tt, (refl, tt, refl, checking_formed 0))))

handshake_formed : (a : Place) → IsProc false a handshake
handshake_formed (in_seq n) = (tt, (answering_formed 0, asking_formed 0))
handshake_formed (at_level n) = (tt, (answering_formed 0, asking_formed 0))

mutual
  beside_formed : {n : ℕ} {p : t.Proc} → AreBeside n p → (m : ℕ) → IsProc false (at_level m) p
  beside_formed one_session m = handshake_formed (at_level m)
  beside_formed (two_halves two half a b) m = (grouped_formed a (m + 1), grouped_beside b (m + 1))

  grouped_formed : {n : ℕ} {p : t.Proc} → AreGrouped n p → (m : ℕ) → IsProc false (in_seq m) p
  grouped_formed alone m = handshake_formed (in_seq m)
  grouped_formed (in_parentheses two h) m = halves_formed h m

  grouped_beside : {n : ℕ} {p : t.Proc} → AreGrouped n p → (m : ℕ) → IsProc false (at_level m) p
  grouped_beside alone m = handshake_formed (at_level m)
  grouped_beside (in_parentheses two h) m = halves_beside h m

  halves_formed : {n : ℕ} {p q : t.Proc} → AreBeside n (t.par nowhere p q) → (m : ℕ) → IsProc false (in_seq m) (t.group nowhere p q)
  halves_formed (two_halves two half a b) m = (grouped_formed a (m + 1), grouped_beside b (m + 1))

  halves_beside : {n : ℕ} {p q : t.Proc} → AreBeside n (t.par nowhere p q) → (m : ℕ) → IsProc false (at_level m) (t.group nowhere p q)
  halves_beside (two_halves two half a b) m = (grouped_formed a (m + 1 + 1), grouped_beside b (m + 1 + 1))

-- ---- its words are fit

both_fit : (a b : List Kind) → AreWordsFit false a → AreWordsFit false b → AreWordsFit false (a ++ b)
both_fit [] b h k = k
both_fit (x ∷ a) b h k = (h.0, both_fit a b h.1 k)

-- the tokens of the handshake, and those in front of the process
abbrev session : List Kind
session = kinds_in (proc_pieces (at_level 0) handshake [])

abbrev front_kinds : List Kind
front_kinds = kinds_in (decls_pieces declarations (a_reserved word.Process []))

session_tokens : (a : Place) (r : List Piece) → kinds_in (proc_pieces a handshake r) ≡ session ++ kinds_in r
session_tokens a r = refl

session_fits : (a : Place) (r : List Piece) → AreWordsFit false (kinds_in r) → AreWordsFit false (kinds_in (proc_pieces a handshake r))
session_fits a r h = subst (AreWordsFit false) (sym (session_tokens a r)) (both_fit session (kinds_in r) (words_fit session refl) h)

mutual
  beside_words : {n : ℕ} {p : t.Proc} → AreBeside n p → (a : Place) (r : List Piece) → AreWordsFit false (kinds_in r) → AreWordsFit false (kinds_in (proc_pieces a p r))
  beside_words one_session a r h = session_fits a r h
  beside_words (two_halves two half x y) a r h = grouped_words x (in_seq _) _ (tt, grouped_words y (at_level _) _ h)

  grouped_words : {n : ℕ} {p : t.Proc} → AreGrouped n p → (a : Place) (r : List Piece) → AreWordsFit false (kinds_in r) → AreWordsFit false (kinds_in (proc_pieces a p r))
  grouped_words alone a r h = session_fits a r h
  grouped_words (in_parentheses two x) a r h = halves_words x a r h

  halves_words : {n : ℕ} {p q : t.Proc} → AreBeside n (t.par nowhere p q) → (a : Place) (r : List Piece) → AreWordsFit false (kinds_in r) → AreWordsFit false (kinds_in (proc_pieces a (t.group nowhere p q) r))
  halves_words (two_halves two half x y) a r h = (tt, grouped_words x (below a) _ (tt, grouped_words y (beside_place a) _ (tt, h)))

-- the file of a process
abbrev file_of_process : t.Proc → t.File
file_of_process p = record { version = 1; decls = declarations; process = p; opponent = None; schedule = None; derivation = None; span = nowhere }

generated : (n : ℕ) (f : t.File) (h : IsSessions n f) → f ≡ file_of_process f.process
generated n f h = rw (h.span, h.version, h.decls, h.opponent, h.schedule, h.derivation) refl

tokens_of_file : (p : t.Proc) → tokens_of (file_of_process p) ≡ front_kinds ++ kinds_in (proc_pieces (at_level 0) p (closes 0 ∷ []))
tokens_of_file p = refl

pub formed : (n : ℕ) (f : t.File) → IsSessions n f → IsFormed f
formed n f h =
    subst IsFormed (sym (generated n f h)) (record {
      version = inl refl;
      decls = (tt, ((tt, tt, (label_formed, tt)), tt));
      process = beside_formed h.process 0;
      opponent = tt;
      derivation = tt;
      words = subst (AreWordsFit false) (sym (tokens_of_file f.process)) (both_fit front_kinds _ (words_fit front_kinds refl) (beside_words h.process (at_level 0) (closes 0 ∷ []) tt));
    })

-- ---- one session

one_process : {n : ℕ} {p : t.Proc} → AreBeside n p → n ≡ 1 → p ≡ handshake
one_process one_session e = refl
one_process (two_halves two half a b) e = absurd (omega (arith, two, e))

-- the word is one of version 1
abbrev is_first : Reserved → Bool
is_first word.Free = true
is_first word.TypeWord = true
is_first word.Process = true
is_first word.Opponent = true
is_first word.Schedule = true
is_first word.Derivation = true
is_first word.Out = true
is_first word.Inp = true
is_first word.Repeat = true
is_first word.Split = true
is_first word.Match = true
is_first word.Case = true
is_first word.Decrypt = true
is_first word.Check = true
is_first word.Begin = true
is_first word.End = true
is_first word.Cast = true
is_first word.New = true
is_first word.Stop = true
is_first word.Is = true
is_first word.Inl = true
is_first word.Inr = true
is_first word.Un = true
is_first word.Key = true
is_first word.Nonce = true
is_first word.Hash = false
is_first word.EndMany = false
is_first word.Many = false

first_words : (w : Reserved) → is_first w ≡ true → word_of version_1 (word_bytes w) ≡ Some w
first_words word.Free h = refl
first_words word.TypeWord h = refl
first_words word.Process h = refl
first_words word.Opponent h = refl
first_words word.Schedule h = refl
first_words word.Derivation h = refl
first_words word.Out h = refl
first_words word.Inp h = refl
first_words word.Repeat h = refl
first_words word.Split h = refl
first_words word.Match h = refl
first_words word.Case h = refl
first_words word.Decrypt h = refl
first_words word.Check h = refl
first_words word.Begin h = refl
first_words word.End h = refl
first_words word.Cast h = refl
first_words word.New h = refl
first_words word.Stop h = refl
first_words word.Is h = refl
first_words word.Inl h = refl
first_words word.Inr h = refl
first_words word.Un h = refl
first_words word.Key h = refl
first_words word.Nonce h = refl
first_words word.Hash h = cc
first_words word.EndMany h = cc
first_words word.Many h = cc

-- all reserved words are of version 1, and there is no number
abbrev are_first : List Kind → Bool
are_first [] = true
are_first (kinds.Word name ∷ ks) = are_first ks
are_first (kinds.Reserved w ∷ ks) = is_first w && are_first ks
are_first (kinds.Number value ∷ ks) = false
are_first (kinds.Mark m ∷ ks) = are_first ks

first_kinds : (ks : List Kind) → AreWordsFit false ks → are_first ks ≡ true → AllByRecursion (IsKind version_1) ks
first_kinds [] fit h = tt
first_kinds (kinds.Word name ∷ ks) fit h = (fit.0, first_kinds ks fit.1 h)
first_kinds (kinds.Reserved w ∷ ks) fit h = let p = and_parts (is_first w) (are_first ks) h in (first_words w p.0, first_kinds ks fit.1 p.1)
first_kinds (kinds.Number value ∷ ks) fit h = cc
first_kinds (kinds.Mark m ∷ ks) fit h = (tt, first_kinds ks fit.1 h)

abbrev one_tokens : List Kind
one_tokens = tokens_of (file_of_process handshake)

pub written_by_hand : (f : t.File) → IsSessions 1 f → (tokens : List Token) × Lexes handshake_text (Ok tokens) × (kinds_of tokens ≡ tokens_of f)
written_by_hand f h =
    let fit : AreWordsFit false one_tokens = words_fit one_tokens refl in
    let read = reads_back one_tokens handshake_text (writes 1000 one_tokens handshake_text refl) (first_version refl (first_kinds one_tokens fit refl)) in
    let same : f ≡ file_of_process handshake = generated 1 f h ∙ ap file_of_process (one_process h.process refl) in
    (read.0, read.1, read.2 ∙ ap tokens_of (sym same))
