-- Processes whose typings are within the nesting limit of derivations and have rules of the version alone.
use Rattle.std.proofs.Common.{◌≡◌, ℕ, ◌+◌, ◌≤◌, ◌==◌, Bool, true, false, not, ◌&&◌, [], refl, ap, if◌then◌else◌}
use Rattle.spi_term.specs.Term.{Message, bound, name, unit, pair, in_left, in_right, enc, hash, Effect, Ty, Leaf, Sends, Stops, Prefix, Recvs, Serves, Splits, Selects, Decrypts, Checks, Begins, Ends, EndManys, Casts, Freshes, Fork, Branches, Pars, Process, leaf, prefix, fork, binds, fork_binds}
use Rattle.spi_term.specs.Substitution.{put, leaf_map, prefix_map, fork_map, process_map, process_put, process_put_two}
use Rattle.spi_rules.specs.declared.rule.Rule.TheVariants.{MsgName, MsgUnit, MsgUnitUn, MsgPair, MsgPairUn, MsgInl, MsgInlUn, MsgInr, MsgInrUn, MsgEnc, MsgEncUn, MsgHash, ProcStop, ProcOut, ProcIn, ProcRepeat, ProcSplit, ProcSplitUn, ProcMatch, ProcMatchUn, ProcCase, ProcCaseUn, ProcDecrypt, ProcDecryptUn, ProcCheck, ProcCheckUn, ProcBegin, ProcEnd, ProcEndMany, ProcCast, ProcCastUn, ProcNew, ProcPar}
use Rattle.spi_rules.specs.Environment.{Env}
use Rattle.spi_rules.specs.Messages.{HasType, msg_name, msg_unit, msg_unit_un, msg_pair, msg_pair_un, msg_inl, msg_inl_un, msg_inr, msg_inr_un, msg_enc, msg_enc_un, msg_hash, msg_cast}
use Rattle.spi_rules.specs.Processes.{HasEffect, proc_stop, proc_out, proc_in, proc_repeat, proc_split, proc_split_un, proc_match, proc_match_un, proc_case, proc_case_un, proc_decrypt, proc_decrypt_un, proc_check, proc_check_un, proc_begin, proc_end, proc_end_many, proc_cast, proc_cast_un, proc_new, proc_par, proc_sub}
use Rattle.spi_rules.specs.Derivations.{type_uses, effect_uses}
use Rattle.spi_deriv.specs.Canonical.{IsCanonical}
use Rattle.spi_spell.proofs.Derived.{Derives, rule, no_premise, last_premise, premise}

-- a message whose typing has its root at this nesting
abbrev pub MessageFitsIn : Bool → ℕ → Message → Type 0
MessageFitsIn later n (bound i) = n ≤ 1000
MessageFitsIn later n (name x) = n ≤ 1000
MessageFitsIn later n unit = n ≤ 1000
MessageFitsIn later n (pair a b) = (n ≤ 1000) × MessageFitsIn later (n + 1) a × MessageFitsIn later (n + 1) b
MessageFitsIn later n (in_left a) = (n ≤ 1000) × MessageFitsIn later (n + 1) a
MessageFitsIn later n (in_right a) = (n ≤ 1000) × MessageFitsIn later (n + 1) a
MessageFitsIn later n (enc a b) = (n ≤ 1000) × MessageFitsIn later (n + 1) a × MessageFitsIn later (n + 1) b
MessageFitsIn later n (hash a) = (n ≤ 1000) × (later ≡ true)

abbrev pub FitsLeaf : Bool → ℕ → Leaf → Type 0
FitsLeaf later n (Sends a b) = MessageFitsIn later n a × MessageFitsIn later n b
FitsLeaf later n Stops = Unit {0}

abbrev pub FitsPrefix : Bool → ℕ → Prefix → Type 0
FitsPrefix later n (Recvs m t) = MessageFitsIn later n m
FitsPrefix later n (Serves m t) = MessageFitsIn later n m
FitsPrefix later n (Splits m t u) = MessageFitsIn later n m
FitsPrefix later n (Selects m t k u) = MessageFitsIn later n m × MessageFitsIn later n k
FitsPrefix later n (Decrypts m t k) = MessageFitsIn later n m × MessageFitsIn later n k
FitsPrefix later n (Checks m k) = MessageFitsIn later n m × MessageFitsIn later n k
FitsPrefix later n (Begins m) = Unit {0}
FitsPrefix later n (Ends m) = Unit {0}
FitsPrefix later n (EndManys m) = later ≡ true
FitsPrefix later n (Casts m t) = MessageFitsIn later n m
FitsPrefix later n (Freshes t) = Unit {0}

abbrev pub FitsFork : Bool → ℕ → Fork → Type 0
FitsFork later n (Branches m t u) = MessageFitsIn later n m
FitsFork later n Pars = Unit {0}

-- a process whose typing has its root at this nesting
abbrev pub FitsNesting : Bool → ℕ → Process → Type 0
FitsNesting later n (leaf l) = (n ≤ 1000) × FitsLeaf later (n + 1) l
FitsNesting later n (prefix s p) = (n ≤ 1000) × FitsPrefix later (n + 1) s × FitsNesting later (n + 1) p
FitsNesting later n (fork f p q) = (n ≤ 1000) × FitsFork later (n + 1) f × FitsNesting later (n + 1) p × FitsNesting later (n + 1) q

-- ---- a name for a binder

pub bound_put : (later : Bool) (n x i : ℕ) (b : Bool) → n ≤ 1000 → MessageFitsIn later n (if b then name x else bound i)
bound_put later n x i true h = h
bound_put later n x i false h = h

message_put : (later : Bool) (n x k : ℕ) (m : Message) → MessageFitsIn later n m → MessageFitsIn later n (put (name x) k m)
message_put later n x k (bound i) h = bound_put later n x i (i == k) h
message_put later n x k (name y) h = h
message_put later n x k unit h = h
message_put later n x k (pair a b) h = (h.0, message_put later (n + 1) x k a h.1, message_put later (n + 1) x k b h.2)
message_put later n x k (in_left a) h = (h.0, message_put later (n + 1) x k a h.1)
message_put later n x k (in_right a) h = (h.0, message_put later (n + 1) x k a h.1)
message_put later n x k (enc a b) h = (h.0, message_put later (n + 1) x k a h.1, message_put later (n + 1) x k b h.2)
message_put later n x k (hash a) h = h

leaf_put : (later : Bool) (n x k : ℕ) (l : Leaf) → FitsLeaf later n l → FitsLeaf later n (leaf_map (put (name x)) k l)
leaf_put later n x k (Sends a b) h = (message_put later n x k a h.0, message_put later n x k b h.1)
leaf_put later n x k Stops h = h

prefix_put : (later : Bool) (n x k : ℕ) (s : Prefix) → FitsPrefix later n s → FitsPrefix later n (prefix_map (put (name x)) k s)
prefix_put later n x k (Recvs m t) h = message_put later n x k m h
prefix_put later n x k (Serves m t) h = message_put later n x k m h
prefix_put later n x k (Splits m t u) h = message_put later n x k m h
prefix_put later n x k (Selects m t j u) h = (message_put later n x k m h.0, message_put later n x k j h.1)
prefix_put later n x k (Decrypts m t j) h = (message_put later n x k m h.0, message_put later n x k j h.1)
prefix_put later n x k (Checks m j) h = (message_put later n x k m h.0, message_put later n x k j h.1)
prefix_put later n x k (Begins m) h = h
prefix_put later n x k (Ends m) h = h
prefix_put later n x k (EndManys m) h = h
prefix_put later n x k (Casts m t) h = message_put later n x k m h
prefix_put later n x k (Freshes t) h = h

fork_put : (later : Bool) (n x k : ℕ) (f : Fork) → FitsFork later n f → FitsFork later n (fork_map (put (name x)) k f)
fork_put later n x k (Branches m t u) h = message_put later n x k m h
fork_put later n x k Pars h = h

fits_put : (later : Bool) (n x k : ℕ) (p : Process) → FitsNesting later n p → FitsNesting later n (process_map (put (name x)) k p)
fits_put later n x k (leaf l) h = (h.0, leaf_put later (n + 1) x k l h.1)
fits_put later n x k (prefix s p) h = (h.0, prefix_put later (n + 1) x k s h.1, fits_put later (n + 1) x (k + binds s) p h.2)
fits_put later n x k (fork f p q) h =
    (h.0, fork_put later (n + 1) x k f h.1, fits_put later (n + 1) x (k + fork_binds f) p h.2, fits_put later (n + 1) x (k + fork_binds f) q h.3)

opened : (later : Bool) (n x : ℕ) (p : Process) → FitsNesting later n p → FitsNesting later n (process_put (name x) p)
opened later n x p h = fits_put later n x 0 p h

opened_two : (later : Bool) (n x y : ℕ) (p : Process) → FitsNesting later n p → FitsNesting later n (process_put_two (name x) (name y) p)
opened_two later n x y p h = fits_put later n y 0 (process_map (put (name x)) 1 p) (fits_put later n x 1 p h)

-- ---- the rule uses of a typing are one tree

not_early : (later : Bool) → later ≡ true → (true && not later) ≡ false
not_early later h = ap (λ (b : Bool). true && not b) h

type_derives : {env : Env} {m : Message} {t : Ty} (later : Bool) (n : ℕ) (h : HasType [] env m t) → MessageFitsIn later n m → Derives later n (type_uses h)
type_derives later n (msg_name a s) f = rule MsgName refl refl f (no_premise later (n + 1))
type_derives later n msg_unit f = rule MsgUnit refl refl f (no_premise later (n + 1))
type_derives later n msg_unit_un f = rule MsgUnitUn refl refl f (no_premise later (n + 1))
type_derives later n (msg_pair h k) f = rule MsgPair refl refl f.0 (premise (type_derives later (n + 1) h f.1) (last_premise (type_derives later (n + 1) k f.2)))
type_derives later n (msg_pair_un h k) f = rule MsgPairUn refl refl f.0 (premise (type_derives later (n + 1) h f.1) (last_premise (type_derives later (n + 1) k f.2)))
type_derives later n (msg_inl h) f = rule MsgInl refl refl f.0 (last_premise (type_derives later (n + 1) h f.1))
type_derives later n (msg_inl_un h) f = rule MsgInlUn refl refl f.0 (last_premise (type_derives later (n + 1) h f.1))
type_derives later n (msg_inr h) f = rule MsgInr refl refl f.0 (last_premise (type_derives later (n + 1) h f.1))
type_derives later n (msg_inr_un h) f = rule MsgInrUn refl refl f.0 (last_premise (type_derives later (n + 1) h f.1))
type_derives later n (msg_enc h a) f = rule MsgEnc refl refl f.0 (last_premise (type_derives later (n + 1) h f.1))
type_derives later n (msg_enc_un h k) f = rule MsgEncUn refl refl f.0 (premise (type_derives later (n + 1) h f.1) (last_premise (type_derives later (n + 1) k f.2)))
type_derives later n (msg_hash l) f = rule MsgHash refl (not_early later f.1) f.0 (no_premise later (n + 1))
type_derives later n (msg_cast i s) f = elim i [ ]

pub effect_derives : {env : Env} {p : Process} {es : Effect} (later : Bool) (n : ℕ) (d : HasEffect [] env p es) → IsCanonical d → FitsNesting later n p → Derives later n (effect_uses d)
effect_derives later n proc_stop c f = rule ProcStop refl refl f.0 (no_premise later (n + 1))
effect_derives later n (proc_out h k) c f = rule ProcOut refl refl f.0 (premise (type_derives later (n + 1) h f.1.0) (last_premise (type_derives later (n + 1) k f.1.1)))
effect_derives later n (proc_in {p = p} h d a) c f = rule ProcIn refl refl f.0 (premise (type_derives later (n + 1) h f.1) (last_premise (effect_derives later (n + 1) d c.1 (opened later (n + 1) _ p f.2))))
effect_derives later n (proc_repeat {p = p} h d m a) c f = rule ProcRepeat refl refl f.0 (premise (type_derives later (n + 1) h f.1) (last_premise (effect_derives later (n + 1) d c.1 (opened later (n + 1) _ p f.2))))
effect_derives later n (proc_split {p = p} h d g a b) c f = rule ProcSplit refl refl f.0 (premise (type_derives later (n + 1) h f.1) (last_premise (effect_derives later (n + 1) d c.1 (opened_two later (n + 1) _ _ p f.2))))
effect_derives later n (proc_split_un {p = p} h d a b) c f = rule ProcSplitUn refl refl f.0 (premise (type_derives later (n + 1) h f.1) (last_premise (effect_derives later (n + 1) d c.2 (opened_two later (n + 1) _ _ p f.2))))
effect_derives later n (proc_match {p = p} h k d g a) c f =
    rule ProcMatch refl refl f.0 (premise (type_derives later (n + 1) h f.1.0) (premise (type_derives later (n + 1) k f.1.1) (last_premise (effect_derives later (n + 1) d c.2 (opened later (n + 1) _ p f.2)))))
effect_derives later n (proc_match_un {p = p} h k d a) c f =
    rule ProcMatchUn refl refl f.0 (premise (type_derives later (n + 1) h f.1.0) (premise (type_derives later (n + 1) k f.1.1) (last_premise (effect_derives later (n + 1) d c.3 (opened later (n + 1) _ p f.2)))))
effect_derives later n (proc_case {p = p} {q = q} h d e g k a b r) c f =
    rule ProcCase refl refl f.0 (premise (type_derives later (n + 1) h f.1) (premise (effect_derives later (n + 1) d c.1 (opened later (n + 1) _ p f.2)) (last_premise (effect_derives later (n + 1) e c.2 (opened later (n + 1) _ q f.3)))))
effect_derives later n (proc_case_un {p = p} {q = q} h d e a b r) c f =
    rule ProcCaseUn refl refl f.0 (premise (type_derives later (n + 1) h f.1) (premise (effect_derives later (n + 1) d c.2 (opened later (n + 1) _ p f.2)) (last_premise (effect_derives later (n + 1) e c.3 (opened later (n + 1) _ q f.3)))))
effect_derives later n (proc_decrypt {p = p} h k d g a) c f =
    rule ProcDecrypt refl refl f.0 (premise (type_derives later (n + 1) h f.1.0) (premise (type_derives later (n + 1) k f.1.1) (last_premise (effect_derives later (n + 1) d c.2 (opened later (n + 1) _ p f.2)))))
effect_derives later n (proc_decrypt_un {p = p} h k d a) c f =
    rule ProcDecryptUn refl refl f.0 (premise (type_derives later (n + 1) h f.1.0) (premise (type_derives later (n + 1) k f.1.1) (last_premise (effect_derives later (n + 1) d c.3 (opened later (n + 1) _ p f.2)))))
effect_derives later n (proc_check h d i s r) c f = rule ProcCheck refl refl f.0 (premise (type_derives later (n + 1) h f.1.0) (last_premise (effect_derives later (n + 1) d c.1 f.2)))
effect_derives later n (proc_check_un h k d) c f =
    rule ProcCheckUn refl refl f.0 (premise (type_derives later (n + 1) h f.1.0) (premise (type_derives later (n + 1) k f.1.1) (last_premise (effect_derives later (n + 1) d c.3 f.2))))
effect_derives later n (proc_begin d l r) c f = rule ProcBegin refl refl f.0 (last_premise (effect_derives later (n + 1) d c f.2))
effect_derives later n (proc_end d l r) c f = rule ProcEnd refl refl f.0 (last_premise (effect_derives later (n + 1) d c f.2))
effect_derives later n (proc_end_many d l r) c f = rule ProcEndMany refl (not_early later f.1) f.0 (last_premise (effect_derives later (n + 1) d c f.2))
effect_derives later n (proc_cast {p = p} h d g a r) c f = rule ProcCast refl refl f.0 (premise (type_derives later (n + 1) h f.1) (last_premise (effect_derives later (n + 1) d c.1 (opened later (n + 1) _ p f.2))))
effect_derives later n (proc_cast_un {p = p} h d a) c f = rule ProcCastUn refl refl f.0 (premise (type_derives later (n + 1) h f.1) (last_premise (effect_derives later (n + 1) d c.1 (opened later (n + 1) _ p f.2))))
effect_derives later n (proc_new {p = p} d i g r a) c f = rule ProcNew refl refl f.0 (last_premise (effect_derives later (n + 1) d c (opened later (n + 1) _ p f.2)))
effect_derives later n (proc_par d e r) c f = rule ProcPar refl refl f.0 (premise (effect_derives later (n + 1) d c.0 f.2) (last_premise (effect_derives later (n + 1) e c.1 f.3)))
effect_derives later n (proc_sub d w g) c f = absurd c
