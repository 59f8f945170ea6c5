use Rattle.std.proofs.Common.{[]}
use Rattle.spi_commands.specs.Refusals.{IsUnlexed, not_utf8, bad_char, bad_number, name_too_long}
use Rattle.spi_commands.proofs.FileRefusals.{lexed_fault, unread_as}
use Rattle.spi_commands.proofs.causes.unlexed.Goals as goal

pub returns-in-NotUtf8 : goal.returns-in-NotUtf8
returns-in-NotUtf8 c = unread_as (IsUnlexed c.args.bytes.now) 10 _ [] c.unspelled.result (not_utf8 c.requires.within (lexed_fault _ _ _ c.in-NotUtf8.is (λ e. cc) c.requires.fault)) c.unspelled.ensures

pub returns-in-BadChar : goal.returns-in-BadChar
returns-in-BadChar c = unread_as (IsUnlexed c.args.bytes.now) 11 _ [] c.unspelled-in-BadChar.result (bad_char c.requires.within (lexed_fault _ _ _ c.in-BadChar.is (λ e. cc) c.requires.fault)) c.unspelled-in-BadChar.ensures

pub returns-in-BadNumber : goal.returns-in-BadNumber
returns-in-BadNumber c = unread_as (IsUnlexed c.args.bytes.now) 12 _ [] c.unspelled-in-BadNumber.result (bad_number c.requires.within (lexed_fault _ _ _ c.in-BadNumber.is (λ e. cc) c.requires.fault)) c.unspelled-in-BadNumber.ensures

pub returns-in-NameTooLong : goal.returns-in-NameTooLong
returns-in-NameTooLong c = unread_as (IsUnlexed c.args.bytes.now) 13 _ [] c.unspelled-in-NameTooLong.result (name_too_long c.requires.within (lexed_fault _ _ _ c.in-NameTooLong.is (λ e. cc) c.requires.fault)) c.unspelled-in-NameTooLong.ensures
