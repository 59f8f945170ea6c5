-- What a list of pieces says past a part of a tree: no node is above a nesting limit, and what each token is.
use Rattle.std.proofs.Common.{ℕ, List, [], ◌∷◌, Option}
use Rattle.std.specs.List.{AllByRecursion}
use Rattle.spi_lex.specs.declared.token.Kind.{Kind}
use Rattle.spi_tree.specs.declared.tree.SWord.{SWord}
use Rattle.spi_tree.specs.Trees as t
use Rattle.spi_tree.specs.Pieces.{Piece, opens, cell, closes, Place, msg_pieces, named_pieces, binder_pieces, decl_pieces, decls_pieces, version_pieces, proc_pieces, opponent_pieces, schedule_pieces, kinds_in}
use Rattle.spi_parse.specs.Exact.{IsWithin}
use Rattle.spi_tree.proofs.Same.{same_msg, same_named, same_binder, same_proc, same_decls, same_version, same_opponent, same_schedule}

-- what follows pieces is within the limits where they are
pub skip_one : (r : List Piece) (p : Piece) (x y : List Piece) → (IsWithin x → IsWithin r) → IsWithin (p ∷ x) → IsWithin r
skip_one r (opens from) x y f h = f h
skip_one r (cell kind deep) x y f h = f h.1
skip_one r (closes to) x y f h = f h

pub past_msg : (m : t.Msg) (r : List Piece) → IsWithin (msg_pieces 1 m r) → IsWithin r
past_msg m r h = same_msg (λ x y. IsWithin x → IsWithin r) (skip_one r) 1 m {x = r} {y = r} (λ k. k) h

pub past_named : (w : SWord) (a : t.Ty) (r : List Piece) → IsWithin (named_pieces w a r) → IsWithin r
past_named w a r h = same_named (λ x y. IsWithin x → IsWithin r) (skip_one r) w a {x = r} {y = r} (λ k. k) h

pub past_binder : (w : SWord) (a : t.Ty) (r : List Piece) → IsWithin (binder_pieces w a r) → IsWithin r
past_binder w a r h = same_binder (λ x y. IsWithin x → IsWithin r) (skip_one r) w a {x = r} {y = r} (λ k. k) h

pub past_proc : (at : Place) (p : t.Proc) (r : List Piece) → IsWithin (proc_pieces at p r) → IsWithin r
past_proc at p r h = same_proc (λ x y. IsWithin x → IsWithin r) (skip_one r) at p {x = r} {y = r} (λ k. k) h

pub past_decls : (ds : List t.Declared) (r : List Piece) → IsWithin (decls_pieces ds r) → IsWithin r
past_decls ds r h = same_decls (λ x y. IsWithin x → IsWithin r) (skip_one r) ds {x = r} {y = r} (λ k. k) h

pub past_version : (v : ℕ) (r : List Piece) → IsWithin (version_pieces v r) → IsWithin r
past_version v r h = same_version (λ x y. IsWithin x → IsWithin r) (skip_one r) v {x = r} {y = r} (λ k. k) h

pub past_opponent : (o : Option t.Proc) (r : List Piece) → IsWithin (opponent_pieces o r) → IsWithin r
past_opponent o r h = same_opponent (λ x y. IsWithin x → IsWithin r) (skip_one r) o {x = r} {y = r} (λ k. k) h

pub past_schedule : (o : Option (List t.Step)) (r : List Piece) → IsWithin (schedule_pieces o r) → IsWithin r
past_schedule o r h = same_schedule (λ x y. IsWithin x → IsWithin r) (skip_one r) o {x = r} {y = r} (λ k. k) h

module _ (P : Kind → Type 0) where
  abbrev AreAll : List Piece → Type 0
  AreAll x = AllByRecursion P (kinds_in x)

  skip_kind : (r : List Piece) (p : Piece) (x y : List Piece) → (AreAll x → AreAll r) → AreAll (p ∷ x) → AreAll r
  skip_kind r (opens from) x y f h = f h
  skip_kind r (cell kind deep) x y f h = f h.1
  skip_kind r (closes to) x y f h = f h

  pub behind_decl : (d : t.Declared) (r : List Piece) → AreAll (decl_pieces d r) → AreAll r
  behind_decl d r h = same_decls (λ x y. AreAll x → AreAll r) (skip_kind r) (d ∷ []) {x = r} {y = r} (λ k. k) h

  pub behind_decls : (ds : List t.Declared) (r : List Piece) → AreAll (decls_pieces ds r) → AreAll r
  behind_decls ds r h = same_decls (λ x y. AreAll x → AreAll r) (skip_kind r) ds {x = r} {y = r} (λ k. k) h

  pub behind_version : (v : ℕ) (r : List Piece) → AreAll (version_pieces v r) → AreAll r
  behind_version v r h = same_version (λ x y. AreAll x → AreAll r) (skip_kind r) v {x = r} {y = r} (λ k. k) h

  pub behind_proc : (at : Place) (p : t.Proc) (r : List Piece) → AreAll (proc_pieces at p r) → AreAll r
  behind_proc at p r h = same_proc (λ x y. AreAll x → AreAll r) (skip_kind r) at p {x = r} {y = r} (λ k. k) h

  pub behind_opponent : (o : Option t.Proc) (r : List Piece) → AreAll (opponent_pieces o r) → AreAll r
  behind_opponent o r h = same_opponent (λ x y. AreAll x → AreAll r) (skip_kind r) o {x = r} {y = r} (λ k. k) h

  pub behind_schedule : (o : Option (List t.Step)) (r : List Piece) → AreAll (schedule_pieces o r) → AreAll r
  behind_schedule o r h = same_schedule (λ x y. AreAll x → AreAll r) (skip_kind r) o {x = r} {y = r} (λ k. k) h
