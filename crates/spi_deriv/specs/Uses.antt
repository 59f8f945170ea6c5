-- The rule uses of a canonical derivation, computed form by form. Of a type the head alone matters, so the types of the
-- names in scope stand here as they are written, and what is opened in them doesn't matter.
use Rattle.std.specs.Prelude.{Bool, true, false, List, [], ◌∷◌, ◌++◌, Option, Some, None, slice_get}
use Rattle.spi_term.specs.Term.{Message, bound, name, unit, pair, in_left, in_right, enc, hash, Ty, un, unit_ty, pair_ty, sum_ty, nonce, Leaf, Sends, Stops, Prefix, Recvs, Serves, Splits, Selects, Decrypts, Checks, Begins, Ends, EndManys, Casts, Freshes, Fork, Branches, Pars, Process, leaf, prefix, fork}
use Rattle.spi_rules.specs.Derivations.{RuleUse, uses}
use Rattle.spi_rules.specs.declared.rule.Rule.{Rule}
use Rattle.spi_rules.specs.declared.rule.Rule.TheVariants.{MsgName, MsgUnit, MsgUnitUn, MsgPair, MsgPairUn, MsgInl, MsgInlUn, MsgInr, MsgInrUn, MsgEnc, MsgEncUn, MsgHash, ProcStop, ProcOut, ProcIn, ProcRepeat, ProcSplit, ProcSplitUn, ProcMatch, ProcMatchUn, ProcCase, ProcCaseUn, ProcDecrypt, ProcDecryptUn, ProcCheck, ProcCheckUn, ProcBegin, ProcEnd, ProcEndMany, ProcCast, ProcCastUn, ProcNew, ProcPar}
use Rattle.spi_message.specs.Tests.{type_of_key, nonce_of}
use Rattle.spi_message.specs.Forms.{is_nonce, on_first, on_rest}

-- the uses of a message's typing, by the type that is wanted
abbrev pub unit_uses : Ty → List RuleUse
unit_uses un = uses MsgUnitUn []
unit_uses unit_ty = uses MsgUnit []
unit_uses _ = []

abbrev pub pair_uses : (Ty → List RuleUse) → (Ty → List RuleUse) → Ty → List RuleUse
pair_uses f g un = uses MsgPairUn (f un ++ g un)
pair_uses f g (pair_ty t u) = uses MsgPair (f t ++ g u)
pair_uses f g _ = []

abbrev pub left_uses : (Ty → List RuleUse) → Ty → List RuleUse
left_uses f un = uses MsgInlUn (f un)
left_uses f (sum_ty t u) = uses MsgInl (f t)
left_uses f _ = []

abbrev pub right_uses : (Ty → List RuleUse) → Ty → List RuleUse
right_uses f un = uses MsgInrUn (f un)
right_uses f (sum_ty t u) = uses MsgInr (f u)
right_uses f _ = []

-- by the payload's type, where the key is a name of a Key type
abbrev pub enc_uses : (Ty → List RuleUse) → (Ty → List RuleUse) → Option Ty → List RuleUse
enc_uses f g None = uses MsgEncUn (f un ++ g un)
enc_uses f g (Some t) = uses MsgEnc (f t)

abbrev pub message_uses : Message → List Ty → Ty → List RuleUse
message_uses (bound i) e t = []
message_uses (name x) e t = uses MsgName []
message_uses unit e t = unit_uses t
message_uses (pair a b) e t = pair_uses (message_uses a e) (message_uses b e) t
message_uses (in_left a) e t = left_uses (message_uses a e) t
message_uses (in_right a) e t = right_uses (message_uses a e) t
message_uses (enc a b) e t = enc_uses (message_uses a e) (message_uses b e) (type_of_key e b)
message_uses (hash a) e t = uses MsgHash []

-- a message is a pair or a name of a pair type
abbrev pub is_pair_ty : Option Ty → Bool
is_pair_ty (Some (pair_ty t u)) = true
is_pair_ty _ = false

abbrev pub is_pair : List Ty → Message → Bool
is_pair e (name x) = is_pair_ty (slice_get e x)
is_pair e (pair a b) = true
is_pair e _ = false

-- a message is a side of a sum or a name of a sum type
abbrev pub is_sum_ty : Option Ty → Bool
is_sum_ty (Some (sum_ty t u)) = true
is_sum_ty _ = false

abbrev pub is_sum : List Ty → Message → Bool
is_sum e (name x) = is_sum_ty (slice_get e x)
is_sum e (in_left a) = true
is_sum e (in_right a) = true
is_sum e _ = false

-- the uses of a form itself and of its messages
abbrev pub two_uses : List Ty → Message → Ty → Message → Ty → List RuleUse
two_uses e m t n u = message_uses m e t ++ message_uses n e u

abbrev pub split_uses : Bool → List Ty → Message → Ty → Ty → List RuleUse
split_uses true e m t u = uses ProcSplit (message_uses m e (pair_ty t u))
split_uses false e m t u = uses ProcSplitUn (message_uses m e un)

abbrev pub select_uses : Bool → List Ty → Message → Ty → Message → Ty → List RuleUse
select_uses true e m t n u = uses ProcMatch (two_uses e m (pair_ty t u) n t)
select_uses false e m t n u = uses ProcMatchUn (two_uses e m un n un)

abbrev pub decrypt_uses : Option Ty → List Ty → Message → Message → List RuleUse
decrypt_uses (Some t) e m n = uses ProcDecrypt (message_uses m e un ++ uses MsgName [])
decrypt_uses None e m n = uses ProcDecryptUn (two_uses e m un n un)

abbrev pub check_uses : Bool → List Ty → Message → Message → List RuleUse
check_uses true e m n = uses ProcCheck (message_uses m e un)
check_uses false e m n = uses ProcCheckUn (two_uses e m un n un)

abbrev pub cast_rule : Ty → Rule
cast_rule (nonce es) = ProcCast
cast_rule _ = ProcCastUn

abbrev pub branch_uses : Bool → List Ty → Message → Ty → Ty → List RuleUse
branch_uses true e m t u = uses ProcCase (message_uses m e (sum_ty t u))
branch_uses false e m t u = uses ProcCaseUn (message_uses m e un)

abbrev pub leaf_uses : List Ty → Leaf → List RuleUse
leaf_uses e (Sends m n) = uses ProcOut (two_uses e m un n un)
leaf_uses e Stops = uses ProcStop []

abbrev pub prefix_uses : List Ty → Prefix → List RuleUse
prefix_uses e (Recvs m t) = uses ProcIn (message_uses m e un)
prefix_uses e (Serves m t) = uses ProcRepeat (message_uses m e un)
prefix_uses e (Splits m t u) = split_uses (is_pair e m) e m t u
prefix_uses e (Selects m t n u) = select_uses (is_pair e m) e m t n u
prefix_uses e (Decrypts m t n) = decrypt_uses (type_of_key e n) e m n
prefix_uses e (Checks m n) = check_uses (is_nonce (nonce_of e n)) e m n
prefix_uses e (Begins m) = uses ProcBegin []
prefix_uses e (Ends m) = uses ProcEnd []
prefix_uses e (EndManys m) = uses ProcEndMany []
prefix_uses e (Casts m t) = uses (cast_rule t) (message_uses m e un)
prefix_uses e (Freshes t) = uses ProcNew []

abbrev pub fork_uses : List Ty → Fork → List RuleUse
fork_uses e (Branches m t u) = branch_uses (is_sum e m) e m t u
fork_uses e Pars = uses ProcPar []

-- the types of the names that a form binds, as they are written
abbrev pub binding : Prefix → List Ty
binding (Recvs m t) = t ∷ []
binding (Serves m t) = t ∷ []
binding (Splits m t u) = t ∷ (u ∷ [])
binding (Selects m t n u) = u ∷ []
binding (Decrypts m t n) = t ∷ []
binding (Checks m n) = []
binding (Begins m) = []
binding (Ends m) = []
binding (EndManys m) = []
binding (Casts m t) = t ∷ []
binding (Freshes t) = t ∷ []

-- of a process whose bound names are numbers, in preorder
abbrev pub process_uses : Process → List Ty → List RuleUse
process_uses (leaf l) e = leaf_uses e l
process_uses (prefix s p) e = prefix_uses e s ++ process_uses p (e ++ binding s)
process_uses (fork f p q) e =
    fork_uses e f ++ (process_uses p (e ++ on_first f) ++ process_uses q (e ++ on_rest f))
