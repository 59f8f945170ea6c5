use Rattle.std.proofs.Common.{sym, ◌∙◌, map}
use Rattle.spi_lex.specs.declared.token.Reserved.TheVariants as word
use Rattle.spi_tree.specs.Views.{decl_of, proc_of, opponent_of, schedule_of, derivation_of, file_of}
use Rattle.spi_tree.specs.Listed.{joined, decl_list, proc_list, reserved_list, version_list, opponent_list, schedule_list, derivation_list}
use Rattle.spi_tree.proofs.Joined.{file_chain}
use Rattle.spi_tree.proofs.Listed.{file_is}
use Rattle.spi_tree.proofs.tokens.tokens_of.Goals as goal

pub returns : goal.returns
returns c =
    let t = c.args.tree.now in
    file_chain _ _ _ _ _ _ _ _ (version_list t.version) (joined decl_list (map decl_of t.decls.items)) (reserved_list word.Process) (proc_list (proc_of t.process))
    (opponent_list (opponent_of t.opponent)) (schedule_list (schedule_of t.schedule)) (derivation_list (derivation_of t.derivation))
    c.new-out.ensures.items c.in_ok-put_version.ensures (rw c.deref.ensures.value at c.in_ok-put_declarations.ensures) c.in_ok-put_reserved.ensures
    c.in_ok-put_process.ensures c.in_ok-put_opponent.ensures c.in_ok-put_schedule.ensures c.in_ok-put_proof.ensures ∙ sym (file_is (file_of t))
