-- A list inside a tree is seen as its list.
use Rattle.std.proofs.Common.{◌≡◌, ◌++◌, List, [], ◌∷◌, map, refl, sym, ap, ◌∙◌, append_assoc}
use Rattle.std.specs.Global.{Vec}
use denote.Ref.{Bor}
use Rattle.spi_text.specs.declared.lines.Span.{Span}
use Rattle.spi_lex.specs.declared.token.Kind.{Kind}
use Rattle.spi_lex.specs.declared.token.Mark.TheVariants as mark
use Rattle.spi_tree.specs.declared.tree.SWord.{SWord}
use Rattle.spi_tree.specs.declared.tree.SMsg.{SMsg, Row_of-SMsg, end_of-SMsg, more_of-SMsg, items-the_row-SMsg, items_hidden-the_row-SMsg-0}
use Rattle.spi_tree.specs.declared.tree.SMsg.TheVariants as smsg
use Rattle.spi_tree.specs.declared.tree.MsgParts.{MsgParts}
use Rattle.spi_tree.specs.declared.tree.STy.{STy}
use Rattle.spi_tree.specs.declared.tree.TyParts.{TyParts, TyParts', out-TyParts, roll-TyParts, out-roll-TyParts, Row_of-SField, end_of-SField, more_of-SField, items-the_row-SField, items_shown-the_row-SField-0}
use Rattle.spi_tree.specs.declared.tree.STy.TheVariants as sty
use Rattle.spi_tree.specs.declared.tree.SField.{SField}
use Rattle.spi_tree.specs.declared.tree.Last.{Last}
use Rattle.spi_tree.specs.declared.tree.SDeriv.{SDeriv, SDeriv', out-SDeriv, Row_of-SDeriv, end_of-SDeriv, more_of-SDeriv, items-the_row-SDeriv, items_shown-the_row-SDeriv-0, items_hidden-the_row-SDeriv-0}
use Rattle.spi_tree.specs.Trees as t
use Rattle.spi_tree.specs.Views.{msg_of, msgs_of_row, ty_of, tuple_of, fields_of_row, last_of, field_of, tree_effect, deriv_of, derivs_of_row}
use Rattle.spi_tree.specs.Listed.{joined, mark_list, msg_list, msgs_list, more_list, field_list, fields_list, deriv_list, derivs_list, word_list, ty_list, last_list, tuple_ty_list, written_list}

row_of_msgs : (n : _) (row : Row_of-SMsg n) → t.msgs_of_list (map msg_of (items-the_row-SMsg n row)) ≡ msgs_of_row row
row_of_msgs n end_of-SMsg = refl
row_of_msgs n (more_of-SMsg m rest) = ap (t.more_msgs (msg_of m)) (row_of_msgs _ rest)

-- a row of messages, by its list
pub row_is : (row : List SMsg) → msgs_of_row (Rattle.spi_tree.specs.declared.tree.SMsg.TheBlock.hidden-the_row-SMsg-0 row) ≡ t.msgs_of_list (map msg_of row)
row_is row = sym (row_of_msgs _ (Rattle.spi_tree.specs.declared.tree.SMsg.TheBlock.hidden-the_row-SMsg-0 row)) ∙ ap (λ l. t.msgs_of_list (map msg_of l)) (items_hidden-the_row-SMsg-0 row)

row_of_fields : (n : _) (row : Row_of-SField n) → t.fields_of_list (map field_of (items-the_row-SField n row)) ≡ fields_of_row row
row_of_fields n end_of-SField = refl
row_of_fields n (more_of-SField w a rest) = ap (t.more_fields w (ty_of a)) (row_of_fields _ rest)

-- the parts of a tuple type
pub parts_are : (s : Span) (p : TyParts) → tuple_of s p ≡ t.tuple_ty s (out-TyParts p).name (ty_of (out-TyParts p).first) (t.fields_of_list (map field_of (out-TyParts p).more.now)) (last_of (out-TyParts p).last)
unfolding out-TyParts denote.Hole.Carrier.out
parts_are s (TyParts' w a p shape row last) =
    ap (λ fs. t.tuple_ty s w (ty_of a) fs (last_of last))
    (sym (row_of_fields _ row) ∙ ap (λ l. t.fields_of_list (map field_of l)) (sym (items_shown-the_row-SField-0 shape row)))

pub tuple_ty_is : (b : Bor TyParts) (s : Span) → ty_of (sty.Tuple b s) ≡ t.tuple_ty s (out-TyParts b.now).name (ty_of (out-TyParts b.now).first) (t.fields_of_list (map field_of (out-TyParts b.now).more.now)) (last_of (out-TyParts b.now).last)
tuple_ty_is b s = parts_are s b.now

-- the same where the box was made of these parts
pub tuple_ty_made : (b : Bor TyParts) (s : Span) (w : SWord) (a : STy) (v : Bor (List SField)) (l : Last) → b.now ≡ roll-TyParts (record { name = w; first = a; more = v; last = l })
    → ty_of (sty.Tuple b s) ≡ t.tuple_ty s w (ty_of a) (t.fields_of_list (map field_of v.now)) (last_of l)
tuple_ty_made b s w a v l e =
    tuple_ty_is b s
    ∙ ap (λ p. t.tuple_ty s p.name (ty_of p.first) (t.fields_of_list (map field_of p.more.now)) (last_of p.last)) (ap out-TyParts e ∙ out-roll-TyParts (record { name = w; first = a; more = v; last = l }))

pub row_of_derivs : (n : _) (row : Row_of-SDeriv n) → t.derivs_of_list (map deriv_of (items-the_row-SDeriv n row)) ≡ derivs_of_row row
row_of_derivs n end_of-SDeriv = refl
row_of_derivs n (more_of-SDeriv d rest) = ap (t.more_derivs (deriv_of d)) (row_of_derivs _ rest)

pub deriv_row_is : (v : Vec SDeriv) → derivs_of_row (Rattle.spi_tree.specs.declared.tree.SDeriv.TheBlock.hidden-the_row-SDeriv-0 v) ≡ t.derivs_of_list (map deriv_of v.items)
deriv_row_is v = sym (row_of_derivs _ (Rattle.spi_tree.specs.declared.tree.SDeriv.TheBlock.hidden-the_row-SDeriv-0 v)) ∙ ap (λ l. t.derivs_of_list (map deriv_of l)) (items_hidden-the_row-SDeriv-0 v)

-- the lists of what a list holds
pub joined_msgs : (xs : List t.Msg) → msgs_list (t.msgs_of_list xs) ≡ joined more_list xs
joined_msgs [] = refl
joined_msgs (x ∷ xs) = ap (λ l. more_list x ++ l) (joined_msgs xs)

pub joined_fields : (xs : List t.Field) → fields_list (t.fields_of_list xs) ≡ joined Rattle.spi_tree.specs.Listed.field_list xs
joined_fields [] = refl
joined_fields (x ∷ xs) = ap (λ l. field_list x ++ l) (joined_fields xs)

pub joined_derivs : (xs : List t.Deriv) → derivs_list (t.derivs_of_list xs) ≡ joined deriv_list xs
joined_derivs [] = refl
joined_derivs (x ∷ xs) = ap (λ l. deriv_list x ++ l) (joined_derivs xs)

pub tuple_ty_listed : (b : Bor TyParts) (s : Span) → ty_list (ty_of (sty.Tuple b s)) ≡ tuple_ty_list (out-TyParts b.now).name (ty_of (out-TyParts b.now).first) (map field_of (out-TyParts b.now).more.now) (last_of (out-TyParts b.now).last)
tuple_ty_listed b s =
    let p = out-TyParts b.now in
    ap ty_list (tuple_ty_is b s)
    ∙ ap (λ l. mark_list mark.ParenOpen ++ word_list p.name ++ mark_list mark.Colon ++ ty_list (ty_of p.first) ++ mark_list mark.Comma ++ l ++ last_list (last_of p.last) ++ mark_list mark.ParenClose) (joined_fields (map field_of p.more.now))

pub deriv_listed : (d : SDeriv) → deriv_list (deriv_of d) ≡ word_list (out-SDeriv d).rule ++ written_list (tree_effect (out-SDeriv d).effect) ++ joined deriv_list (map deriv_of (out-SDeriv d).premises.items)
unfolding out-SDeriv denote.Hole.Carrier.out
deriv_listed (SDeriv' w es shape row s) = ap (λ l. word_list w ++ written_list (tree_effect es) ++ l) (sym (ap derivs_list (row_of_derivs _ row)) ∙ joined_derivs (map deriv_of (items-the_row-SDeriv _ row)) ∙ ap (λ l. joined deriv_list (map deriv_of l)) (sym (items_shown-the_row-SDeriv-0 shape row)))

-- what was put, one list behind another
chain6 : (o0 o1 o2 o3 o4 o5 o6 a b c d e f : List Kind) → o1 ≡ o0 ++ a → o2 ≡ o1 ++ b → o3 ≡ o2 ++ c → o4 ≡ o3 ++ d → o5 ≡ o4 ++ e → o6 ≡ o5 ++ f → o6 ≡ o0 ++ (a ++ b ++ c ++ d ++ e ++ f)
chain6 o0 o1 o2 o3 o4 o5 o6 a b c d e f h1 h2 h3 h4 h5 h6 = rw (h6, h5, h4, h3, h2, h1) (simp append_assoc refl)

chain8 : (o0 o1 o2 o3 o4 o5 o6 o7 o8 a b c d e f g h : List Kind) → o1 ≡ o0 ++ a → o2 ≡ o1 ++ b → o3 ≡ o2 ++ c → o4 ≡ o3 ++ d → o5 ≡ o4 ++ e → o6 ≡ o5 ++ f → o7 ≡ o6 ++ g → o8 ≡ o7 ++ h → o8 ≡ o0 ++ (a ++ b ++ c ++ d ++ e ++ f ++ g ++ h)
chain8 o0 o1 o2 o3 o4 o5 o6 o7 o8 a b c d e f g h h1 h2 h3 h4 h5 h6 h7 h8 = rw (h8, h7, h6, h5, h4, h3, h2, h1) (simp append_assoc refl)

pub tuple_is : (b : Bor MsgParts) (s : Span) → msg_of (smsg.Tuple b s) ≡ t.tuple s (msg_of b.now.first) (msg_of b.now.second) (t.msgs_of_list (map msg_of b.now.more.now))
tuple_is b s = ap (t.tuple s (msg_of b.now.first) (msg_of b.now.second)) (row_is b.now.more.now)

pub tuple_listed : (b : Bor MsgParts) (s : Span) → msg_list (msg_of (smsg.Tuple b s)) ≡ mark_list mark.ParenOpen ++ msg_list (msg_of b.now.first) ++ mark_list mark.Comma ++ msg_list (msg_of b.now.second) ++ joined more_list (map msg_of b.now.more.now) ++ mark_list mark.ParenClose
tuple_listed b s =
    ap msg_list (tuple_is b s)
    ∙ ap (λ l. mark_list mark.ParenOpen ++ msg_list (msg_of b.now.first) ++ mark_list mark.Comma ++ msg_list (msg_of b.now.second) ++ l ++ mark_list mark.ParenClose) (joined_msgs (map msg_of b.now.more.now))

pub put_tuple : (m : SMsg) (b : Bor MsgParts) (s : Span) (m0 m1 : SMsg) (m2 : List SMsg) (o0 o1 o2 o3 o4 o5 o6 : List Kind) → m ≡ smsg.Tuple b s
    → m0 ≡ b.now.first → m1 ≡ b.now.second → m2 ≡ b.now.more.now
    → o1 ≡ o0 ++ mark_list mark.ParenOpen → o2 ≡ o1 ++ msg_list (msg_of m0) → o3 ≡ o2 ++ mark_list mark.Comma → o4 ≡ o3 ++ msg_list (msg_of m1)
    → o5 ≡ o4 ++ joined more_list (map msg_of m2) → o6 ≡ o5 ++ mark_list mark.ParenClose → o6 ≡ o0 ++ msg_list (msg_of m)
put_tuple m b s m0 m1 m2 o0 o1 o2 o3 o4 o5 o6 is e0 e1 e2 h1 h2 h3 h4 h5 h6 =
    chain6 o0 o1 o2 o3 o4 o5 o6 (mark_list mark.ParenOpen) (msg_list (msg_of b.now.first)) (mark_list mark.Comma) (msg_list (msg_of b.now.second)) (joined more_list (map msg_of b.now.more.now)) (mark_list mark.ParenClose) h1 (rw e0 at h2) h3 (rw e1 at h4) (rw e2 at h5) h6
    ∙ ap (λ l. o0 ++ l) (sym (ap (λ x. msg_list (msg_of x)) is ∙ tuple_listed b s))

pub put_tuple_ty : (m : STy) (b : Bor TyParts) (s : Span) (w : SWord) (a : STy) (fs : List SField) (l : Last) (o0 o1 o2 o3 o4 o5 o6 o7 o8 : List Kind) → m ≡ sty.Tuple b s
    → w ≡ (out-TyParts b.now).name → a ≡ (out-TyParts b.now).first → fs ≡ (out-TyParts b.now).more.now → l ≡ (out-TyParts b.now).last
    → o1 ≡ o0 ++ mark_list mark.ParenOpen → o2 ≡ o1 ++ word_list w → o3 ≡ o2 ++ mark_list mark.Colon → o4 ≡ o3 ++ ty_list (ty_of a) → o5 ≡ o4 ++ mark_list mark.Comma
    → o6 ≡ o5 ++ joined field_list (map field_of fs) → o7 ≡ o6 ++ last_list (last_of l) → o8 ≡ o7 ++ mark_list mark.ParenClose → o8 ≡ o0 ++ ty_list (ty_of m)
put_tuple_ty m b s w a fs l o0 o1 o2 o3 o4 o5 o6 o7 o8 is ew ea es el h1 h2 h3 h4 h5 h6 h7 h8 =
    chain8 o0 o1 o2 o3 o4 o5 o6 o7 o8 (mark_list mark.ParenOpen) (word_list w) (mark_list mark.Colon) (ty_list (ty_of a)) (mark_list mark.Comma) (joined field_list (map field_of fs)) (last_list (last_of l)) (mark_list mark.ParenClose) h1 h2 h3 h4 h5 h6 h7 h8
    ∙ ap (λ x. o0 ++ x) (rw (ew, ea, es, el) (sym (ap (λ x. ty_list (ty_of x)) is ∙ tuple_ty_listed b s)))

pub put_derivation : (d : SDeriv) (ds : List SDeriv) (o0 o1 o2 o3 : List Kind) → ds ≡ (out-SDeriv d).premises.items → o1 ≡ o0 ++ word_list (out-SDeriv d).rule → o2 ≡ o1 ++ written_list (tree_effect (out-SDeriv d).effect)
    → o3 ≡ o2 ++ joined deriv_list (map deriv_of ds) → o3 ≡ o0 ++ deriv_list (deriv_of d)
put_derivation d ds o0 o1 o2 o3 e h1 h2 h3 = rw (deriv_listed d, ← e, h3, h2, h1) (simp append_assoc refl)
