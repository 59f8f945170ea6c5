use Rattle.std.proofs.Common.{◌≡◌, suc, ◌+◌, ◌++◌, [], ◌∷◌, map, length, arith, sym, ap, ◌∙◌}
use Rattle.std.specs.Global.{Vec}
use Rattle.std.proofs.lemmas.List.{length-map}
use Rattle.std.proofs.lemmas.Result.{on_ok_weaker}
use Rattle.spi_text.specs.declared.lines.Span.{Span}
use Rattle.spi_tree.specs.Views.{msg_of, ty_of, proc_of}
use Rattle.spi_term.specs.Term.{Branches, Pars, process_size}
use Rattle.spi_term.specs.Spelling.{flat}
use Rattle.spi_term.specs.View.{message, ty, shape_of}
use Rattle.spi_scope.specs.Meaning.{message_in, type_in, process_in}
use Rattle.spi_scope.specs.Marks.{places, scopes}
use Rattle.spi_scope.specs.State.{abbreviations}
use Rattle.spi_scope.specs.Table.{Naming}
use Rattle.spi_scope.proofs.Closing.{fork_nodes, fork_kept, grown, one_more, next_one, next_rest, none_in}
use Rattle.spi_scope.proofs.processes.+processes.Goals as goal

pub compose-returns-clause-adds : goal.compose-returns-clause-adds
compose-returns-clause-adds t c =
    let s = c.args.scope.now in
    let xs = s.held.names in
    let r = c.in_ok-read_process.ensures.adds in
    let g = c.in_ok-push.ensures in
    let v = c.in_ok-add.ensures.kept in
    let n0 : c.push.new.scope.held.names ≡ xs = g.names in
    let y0 : c.push.new.scope.types ≡ s.types = g.types in
    let n : c.add.new.scope.held.names ≡ xs = ap (λ (h : Naming). h.names) v.held ∙ r.names ∙ n0 in
    let y : c.add.new.scope.types ≡ s.types = v.types ∙ r.types ∙ y0 in
    let i = length c.args.arena.now.nodes.items in
    let k = length xs in
    let p = process_in (λ x. x) (abbreviations s.types) xs (proc_of c.args.first.now) in
    let q = process_in (λ x. x) (abbreviations s.types) xs (proc_of c.args.rest.now) in
    let f : map shape_of c.read_process.new.arena.nodes.items ≡ map shape_of c.push.new.arena.nodes.items ++ flat (length c.push.new.arena.nodes.items) k p =
    rw (n0, y0) at r.nodes in
    let l : length c.read_process.new.arena.nodes.items ≡ length c.push.new.arena.nodes.items + process_size p =
    grown c.push.new.arena.nodes.items c.read_process.new.arena.nodes.items _ _ p f in
    let o : c.read_process.new.scope.held.noted ≡ c.push.new.scope.held.noted ++ scopes xs (proc_of c.args.first.now) = rw n0 at r.noted in
    let a = c.in_ok-at.ensures in
    let b = c.in_ok-next.ensures in
    let d = c.close_pair.ensures in
    on_ok_weaker c.read_process-2.result
    (λ h.
    let m : c.read_process-2.new.scope.held.noted ≡ c.add.new.scope.held.noted ++ scopes xs (proc_of c.args.rest.now) = rw n at h.noted in
    record {
      nodes = fork_nodes Pars (map shape_of c.args.arena.now.nodes.items) (map shape_of c.push.new.arena.nodes.items) (map shape_of c.read_process.new.arena.nodes.items) (map shape_of c.close_pair.new.arena.nodes.items) (map shape_of c.read_process-2.new.arena.nodes.items)
          p q k k k _ _ _ (length c.push.new.arena.nodes.items) (length c.close_pair.new.arena.nodes.items) _
          g.nodes f (rw c.len-base.ensures at d.nodes) (rw (n, y) at h.nodes) i
          a.0 (sym (length-map c.args.arena.now.nodes.items shape_of)) (next_one (length c.push.new.arena.nodes.items) i g.len) (one_more c.in_ok-at.at i a.0)
          (next_rest c.in_ok-next.next (length c.read_process.new.arena.nodes.items) (length c.push.new.arena.nodes.items) i (process_size p) b.0 l g.len)
          (next_rest (length c.close_pair.new.arena.nodes.items) (length c.read_process.new.arena.nodes.items) (length c.push.new.arena.nodes.items) i (process_size p) d.len l g.len)
          (none_in k) (none_in k);
      placed = fork_kept c.args.arena.now.places.items c.push.new.arena.places.items c.read_process.new.arena.places.items c.read_process-2.new.arena.places.items
          c.args.span (places (proc_of c.args.first.now)) (places (proc_of c.args.rest.now))
          g.places r.placed (h.placed ∙ ap (λ (w : Vec Span). w.items ++ places (proc_of c.args.rest.now)) d.places);
      noted = fork_kept s.held.noted c.push.new.scope.held.noted c.read_process.new.scope.held.noted c.read_process-2.new.scope.held.noted
          xs (scopes xs (proc_of c.args.first.now)) (scopes xs (proc_of c.args.rest.now))
          g.noted o (m ∙ ap (λ (w : Naming). w.noted ++ scopes xs (proc_of c.args.rest.now)) v.held);
      names = h.names ∙ n;
      types = h.types ∙ y;
      few = h.few;
    })
    c.read_process-2.ensures.adds

pub branch-returns-clause-adds : goal.branch-returns-clause-adds
branch-returns-clause-adds t c =
    let s = c.args.scope.now in
    let xs = s.held.names in
    let ts = abbreviations s.types in
    let k = length xs in
    let m = c.in_ok-whole.ensures in
    let g = c.in_ok-push.ensures in
    let r = c.in_ok-read_under.ensures.adds in
    let v = c.in_ok-right.ensures in
    let xl = c.args.left.now.word ∷ xs in
    let xr = c.args.other.now.word ∷ xs in
    let pl = proc_of c.args.first.now in
    let pr = proc_of c.args.second.now in
    let n0 : c.push.new.scope.held.names ≡ xs = g.names ∙ ap (λ (h : Naming). h.names) m.kept.held in
    let y1 : c.push.new.scope.types ≡ s.types = g.types ∙ m.kept.types in
    let n2 : c.read_under.new.scope.held.names ≡ xs = r.names ∙ n0 in
    let y2 : c.read_under.new.scope.types ≡ s.types = r.types ∙ y1 in
    let n3 : c.read_annotation.new.scope.held.names ≡ xs = ap (λ (h : Naming). h.names) v.kept.held ∙ n2 in
    let y4 : c.read_annotation.new.scope.types ≡ s.types = v.kept.types ∙ y2 in
    let p = process_in (λ x. x) ts xl pl in
    let q = process_in (λ x. x) ts xr pr in
    let mm = message_in k xs (msg_of c.args.whole.now) in
    let aa = type_in k ts xs (ty_of c.args.left_ty.now) in
    let cc' = type_in k ts xs (ty_of c.args.right_ty.now) in
    let em : message c.in_ok-whole.whole ≡ mm = m.read.0 ∙ ap (λ b. message_in b xs (msg_of c.args.whole.now)) c.len-base.ensures in
    let ea : ty c.in_ok-whole.left_ty ≡ aa = m.read.1 ∙ ap (λ b. type_in b ts xs (ty_of c.args.left_ty.now)) c.len-base.ensures in
    let ec : ty c.in_ok-right.right ≡ cc' = (rw (n2, y2, c.len-base.ensures) at v.gives.1) in
    let f : map shape_of c.read_under.new.arena.nodes.items ≡ map shape_of c.push.new.arena.nodes.items ++ flat (length c.push.new.arena.nodes.items) (suc k) p =
    rw (n0, y1) at r.nodes in
    let l : length c.read_under.new.arena.nodes.items ≡ length c.push.new.arena.nodes.items + process_size p =
    grown c.push.new.arena.nodes.items c.read_under.new.arena.nodes.items _ _ p f in
    let o1 : c.push.new.scope.held.noted ≡ s.held.noted ++ xs ∷ [] = g.noted ∙ ap (λ (h : Naming). h.noted ++ h.names ∷ []) m.kept.held in
    let o2 : c.read_under.new.scope.held.noted ≡ c.push.new.scope.held.noted ++ scopes xl pl = rw n0 at r.noted in
    let i = length c.args.arena.now.nodes.items in
    let a = c.in_ok-at.ensures in
    let b = c.in_ok-on_right.ensures in
    let d = c.close.ensures in
    on_ok_weaker c.read_under-2.result
    (λ h.
    let o3 : c.read_under-2.new.scope.held.noted ≡ c.read_annotation.new.scope.held.noted ++ scopes xr pr = rw n3 at h.noted in
    record {
      nodes = fork_nodes (Branches mm aa cc') (map shape_of c.args.arena.now.nodes.items) (map shape_of c.push.new.arena.nodes.items) (map shape_of c.read_under.new.arena.nodes.items) (map shape_of c.close.new.arena.nodes.items) (map shape_of c.read_under-2.new.arena.nodes.items)
          p q k (suc k) (suc k) _ _ _ (length c.push.new.arena.nodes.items) (length c.close.new.arena.nodes.items) _
          g.nodes f (rw (c.len-base.ensures, em, ea, ec) at d.nodes) (rw (n3, y4) at h.nodes) i
          (omega (arith, a)) (sym (length-map c.args.arena.now.nodes.items shape_of)) (omega (arith, g.len)) (omega (arith, a)) (omega (arith, b, l, g.len)) (omega (arith, d.len, l, g.len)) (omega arith) (omega arith);
      placed = fork_kept c.args.arena.now.places.items c.push.new.arena.places.items c.read_under.new.arena.places.items c.read_under-2.new.arena.places.items
          c.args.span (places pl) (places pr) g.places r.placed (h.placed ∙ ap (λ (w : Vec Span). w.items ++ places pr) d.places);
      noted = fork_kept s.held.noted c.push.new.scope.held.noted c.read_under.new.scope.held.noted c.read_under-2.new.scope.held.noted
          xs (scopes xl pl) (scopes xr pr) o1 o2 (o3 ∙ ap (λ (w : Naming). w.noted ++ scopes xr pr) v.kept.held);
      names = h.names ∙ n3;
      types = h.types ∙ y4;
      few = h.few;
    })
    c.read_under-2.ensures.adds
