-- Lists that are one.
use Rattle.std.proofs.Common.{◌≡◌, List, [], sym, subst, ◌∙◌}
use Rattle.std.proofs.lemmas.List.{append-nil}
use Rattle.dfs_record.specs.declared.Record.{Record}
use Rattle.dfs_record.specs.Records.{KeysRise, IsPrefix}

pub same_rises : (rs l : List Record) → KeysRise rs → l ≡ rs → KeysRise l
same_rises rs l h e = subst KeysRise (sym e) h

pub same_begins : (rs l : List Record) → l ≡ rs → IsPrefix rs l
same_begins rs l e = ([], e ∙ sym (append-nil rs))

pub same_one : (rs l m : List Record) → l ≡ rs → m ≡ rs → l ≡ m
same_one rs l m e d = e ∙ sym d
