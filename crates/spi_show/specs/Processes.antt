-- The canonical text of a process, where a name with number i is spelled `spell i` and n names are in scope. A binder's
-- number is the number of names in scope where it stands.
use Rattle.std.specs.Prelude.{ℕ, suc, ◌+◌, Bool, true, false, if◌then◌else◌, List, ◌++◌, codes}
use Rattle.spi_term.specs.Term.{Leaf, Sends, Stops, Prefix, Recvs, Serves, Splits, Selects, Decrypts, Checks, Begins, Ends, EndManys, Casts, Freshes, Branches, Pars, Process, leaf, prefix, fork, binds}
use Rattle.spi_show.specs.Terms.{message_text, type_text, typed_text}

abbrev pub leaf_text : (ℕ → List ℕ) → ℕ → Leaf → List ℕ
leaf_text spell n (Sends a b) =
    codes "out " ++ (message_text spell n a ++ (codes " " ++ message_text spell n b))
leaf_text spell n Stops = codes "stop"

-- a form with one process in it, up to that process
abbrev pub prefix_text : (ℕ → List ℕ) → ℕ → Prefix → List ℕ
prefix_text spell n (Recvs m t) =
    codes "inp " ++ (message_text spell n m
    ++ (codes " (" ++ (typed_text spell n (type_text spell n t) ++ codes "); ")))
prefix_text spell n (Serves m t) =
    codes "repeat inp "
    ++ (message_text spell n m
    ++ (codes " (" ++ (typed_text spell n (type_text spell n t) ++ codes "); ")))
prefix_text spell n (Splits m t u) =
    codes "split " ++ (message_text spell n m ++ (codes " is (" ++ (typed_text spell n (type_text spell n t)
    ++ (codes ", " ++ (typed_text spell (suc n) (type_text spell (suc n) u) ++ codes "); ")))))
prefix_text spell n (Selects m t k u) =
    codes "match " ++ (message_text spell n m ++ (codes " is (" ++ (typed_text spell n (type_text spell n t)
    ++ (codes " = " ++ (message_text spell n k
    ++ (codes ", " ++ (typed_text spell n (type_text spell (suc n) u) ++ codes "); ")))))))
prefix_text spell n (Decrypts m t k) =
    codes "decrypt " ++ (message_text spell n m ++ (codes " is {" ++ (typed_text spell n (type_text spell n t)
    ++ (codes "}" ++ (message_text spell n k ++ codes "; ")))))
prefix_text spell n (Checks m k) =
    codes "check " ++ (message_text spell n m ++ (codes " is " ++ (message_text spell n k ++ codes "; ")))
prefix_text spell n (Begins m) = codes "begin " ++ (message_text spell n m ++ codes "; ")
prefix_text spell n (Ends m) = codes "end " ++ (message_text spell n m ++ codes "; ")
prefix_text spell n (EndManys m) = codes "endmany " ++ (message_text spell n m ++ codes "; ")
prefix_text spell n (Casts m t) =
    codes "cast "
    ++ (message_text spell n m
    ++ (codes " is (" ++ (typed_text spell n (type_text spell n t) ++ codes "); ")))
prefix_text spell n (Freshes t) = codes "new (" ++ (typed_text spell n (type_text spell n t) ++ codes "); ")

-- a `case` up to its first process, and between its processes
abbrev pub left_text : (ℕ → List ℕ) → ℕ → List ℕ → List ℕ → List ℕ
left_text spell n whole ty =
    codes "case " ++ (whole ++ (codes " is inl (" ++ (typed_text spell n ty ++ codes "); ")))

abbrev pub right_text : (ℕ → List ℕ) → ℕ → List ℕ → List ℕ
right_text spell n ty = codes " is inr (" ++ (typed_text spell n ty ++ codes "); ")

-- A process stands alone, in the place of a part or behind a bar, or as the sequel of a form, where a parallel
-- composition is written `out M N; Q` or in parentheses.
pub data Standing : Type 0 where
  alone : Standing
  sequel : Standing

abbrev pub is_output : Process → Bool
is_output (leaf (Sends a b)) = true
is_output (leaf Stops) = false
is_output (prefix s p) = false
is_output (fork f p q) = false

abbrev pub process_text : (ℕ → List ℕ) → Standing → ℕ → Process → List ℕ
process_text spell at n (leaf l) = leaf_text spell n l
process_text spell at n (prefix s p) = prefix_text spell n s ++ process_text spell sequel (n + binds s) p
process_text spell at n (fork (Branches m t u) p q) =
    left_text spell n (message_text spell n m) (type_text spell n t) ++ (process_text spell sequel (n + 1) p
    ++ (right_text spell n (type_text spell n u) ++ process_text spell sequel (n + 1) q))
process_text spell alone n (fork Pars p q) =
    process_text spell sequel n p ++ (codes " | " ++ process_text spell alone n q)
process_text spell sequel n (fork Pars p q) =
    if is_output p then process_text spell sequel n p ++ (codes "; " ++ process_text spell sequel n q)
    else codes "("
    ++ (process_text spell sequel n p ++ (codes " | " ++ (process_text spell alone n q ++ codes ")")))
