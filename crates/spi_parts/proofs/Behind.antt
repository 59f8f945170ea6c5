-- The pieces of a part in front of others are its own and then those.
use Rattle.std.proofs.Common.{◌≡◌, ℕ, List, [], ◌∷◌, ◌++◌, refl, ap}
use Rattle.spi_tree.specs.Trees as t
use Rattle.spi_tree.specs.Pieces.{Piece, Place, msg_pieces, ty_pieces, decl_pieces, proc_pieces}
use Rattle.spi_tree.proofs.Same.{same_msg, same_ty, same_decl, same_proc}

pub msg_behind : (n : ℕ) (m : t.Msg) (r : List Piece) → msg_pieces n m r ≡ msg_pieces n m [] ++ r
msg_behind n m r = same_msg (λ x y. x ≡ y ++ r) (λ p x y h. ap (λ (l : List Piece). p ∷ l) h) n m refl

pub ty_behind : (n : ℕ) (a : t.Ty) (r : List Piece) → ty_pieces n a r ≡ ty_pieces n a [] ++ r
ty_behind n a r = same_ty (λ x y. x ≡ y ++ r) (λ p x y h. ap (λ (l : List Piece). p ∷ l) h) n a refl

pub decl_behind : (d : t.Declared) (r : List Piece) → decl_pieces d r ≡ decl_pieces d [] ++ r
decl_behind d r = same_decl (λ x y. x ≡ y ++ r) (λ p x y h. ap (λ (l : List Piece). p ∷ l) h) d refl

pub proc_behind : (a : Place) (p : t.Proc) (r : List Piece) → proc_pieces a p r ≡ proc_pieces a p [] ++ r
proc_behind a p r = same_proc (λ x y. x ≡ y ++ r) (λ p x y h. ap (λ (l : List Piece). p ∷ l) h) a p refl
