-- What is read is valid.
use Rattle.std.proofs.Common.{◌≡◌, ◌≤◌, ◌<◌, ◌^◌, ℕ, List, length, sym, subst, inl, inr, arith}
use Rattle.std.specs.Prelude.{◌&&◌, nat_lt, Option, Some, None, IsTrue, IfSome, Result, Ok, Err, IfOk}
use Rattle.std.specs.List.{list_all}
use Rattle.std.proofs.lemmas.Bool.{ltb-true}
use Rattle.dfs_record.specs.Name.{is_between, is_digit, is_reference, IsReference}
use Rattle.dfs_record.specs.Pieces.{words, passing}
use Rattle.dfs_path.specs.declared.Op.{Op}
use Rattle.dfs_path.specs.declared.Op.TheVariants.{Mkdir, Create, Unlink, Rmdir, Rename, Setattr, Stat, List as ListOp}
use Rattle.dfs_path.specs.Escape.{unescaped}
use Rattle.dfs_path.specs.Op.{IsNumber, IsOp}
use Rattle.dfs_record.specs.Record.{IsMode}
use Rattle.dfs_path.proofs.Paths.{path_is_valid}
use Rattle.dfs_script.specs.declared.Line.{Line}
use Rattle.dfs_script.specs.declared.Line.TheVariants.{Nothing, Set, Snapshots, Begin, Space, Flush, Plan, Part, Stats, Publish, End}
use Rattle.dfs_script.specs.declared.LineFault.{LineFault}
use Rattle.dfs_script.specs.Grammar.{IsOpForm, IsPartsForm, IsForm}
use Rattle.dfs_script.specs.Line.{without_cr, meaning}
use Rattle.dfs_script.specs.Means.{Says}
use Rattle.dfs_script.specs.Read.{IsMeaning}
use Rattle.dfs_script.specs.Scopes.{is_parts}
use Rattle.dfs_script.specs.Valid.{IsLine}
use Rattle.dfs_script.specs.Word.{worth, number_of, mode_of, is_octal_digit, reference_of}
use Rattle.dfs_script.proofs.Meanings.{means_one}
use Rattle.dfs_script.proofs.Reading.{chained, passed, both}
use Rattle.dfs_script.proofs.Worth.{four_octal}

mode_is_valid : (m : List ℕ) (mode : ℕ) → mode_of m ≡ Some mode → IsMode mode
mode_is_valid m mode e =
    let a = passed (is_between 1 4 (length m) && list_all is_octal_digit m) (worth 8 m) mode e in
    let b = both (is_between 1 4 (length m)) (list_all is_octal_digit m) a.0 in
    let small : worth 8 m < 4096 = four_octal m b.0 b.1 in
    subst (λ n. n ≤ 4095) a.1 (omega (arith, small))

number_is_valid : (n : List ℕ) (number : ℕ) → number_of n ≡ Some number → IsNumber number
number_is_valid n number e =
    let a = passed (is_between 1 20 (length n) && list_all is_digit n && nat_lt (worth 10 n) (2 ^ 64)) (worth 10 n) number e in
    let b = both (is_between 1 20 (length n) && list_all is_digit n) (nat_lt (worth 10 n) (2 ^ 64)) a.0 in
    subst (λ v. v < 2 ^ 64) a.1 (ltb-true (worth 10 n) (2 ^ 64) b.1)

reference_is_valid : (r reference : List ℕ) → reference_of r ≡ Some reference → IsReference reference
reference_is_valid r reference e =
    let a = chained (λ bytes. passing (is_reference bytes) bytes) (unescaped r) reference e in
    let b = passed (is_reference a.0) a.0 reference a.2 in
    subst (λ bytes. IsReference bytes) b.1 b.0

op_is_valid : (ws : List (List ℕ)) (op : Op) → IsOpForm ws op → IsOp op
op_is_valid ws (Mkdir path mode time) (p, m, t, _, is_path, is_mode, is_time) = (path_is_valid p path is_path, mode_is_valid m mode is_mode, number_is_valid t time is_time)
op_is_valid ws (Create path mode time size reference) (p, m, t, s, r, _, is_path, is_mode, is_time, is_size, is_reference) =
    (path_is_valid p path is_path, mode_is_valid m mode is_mode, number_is_valid t time is_time, number_is_valid s size is_size, reference_is_valid r reference is_reference)
op_is_valid ws (Unlink path) (p, _, is_path) = path_is_valid p path is_path
op_is_valid ws (Rmdir path) (p, _, is_path) = path_is_valid p path is_path
op_is_valid ws (Rename from to) (p, q, _, is_from, is_to) = (path_is_valid p from is_from, path_is_valid q to is_to)
op_is_valid ws (Setattr path mode time) (p, m, t, _, is_path, is_mode, is_time) = (path_is_valid p path is_path, mode_is_valid m mode is_mode, number_is_valid t time is_time)
op_is_valid ws (Stat path) (p, _, is_path) = path_is_valid p path is_path
op_is_valid ws (ListOp path) (p, _, is_path) = path_is_valid p path is_path

parts_are_valid : (ws : List (List ℕ)) (parts : Option ℕ) → IsPartsForm ws parts → IfSome parts (λ n. IsTrue (is_parts n))
parts_are_valid ws None form = tt
parts_are_valid ws (Some parts) (_, _, _, in_range) = in_range

form_is_valid : (ws : List (List ℕ)) (line : Line) → IsForm ws line → IsLine line
form_is_valid ws Nothing form = tt
form_is_valid ws (Set what value) (_, _, _, in_range) = in_range
form_is_valid ws Snapshots form = tt
form_is_valid ws (Begin job names) (_, j, valid) = (j, valid)
form_is_valid ws (Space job op) (rest, _, j, form) = (j, op_is_valid rest op form)
form_is_valid ws (Flush job) (_, j) = j
form_is_valid ws (Plan job scope parts) (rest, _, j, form) = (j, parts_are_valid rest parts form)
form_is_valid ws (Part job part) (n, _, j, is_number) = (j, number_is_valid n part is_number)
form_is_valid ws (Stats job) (_, j) = j
form_is_valid ws (Publish job name) (_, j, valid) = (j, valid)
form_is_valid ws (End job) (_, j) = j

said_is_valid : (text : List ℕ) (line : Line) → Says text line → IsLine line
said_is_valid text line (inl (_, nothing)) = subst (λ l. IsLine l) (sym nothing) tt
said_is_valid text line (inr (_, _, form)) = form_is_valid (words 32 text) line form

pub meant_is_valid : (line : List ℕ) (command : Line) → meaning line ≡ Ok command → IsLine command
meant_is_valid line command e = said_is_valid (without_cr line) command ((means_one line (Ok command)).0 e).1

pub answer_is_valid : (result : Result Line LineFault) (line : List ℕ) → IsMeaning result line → IfOk result IsLine
answer_is_valid (Ok command) line e = meant_is_valid line command e
answer_is_valid (Err fault) line e = tt
