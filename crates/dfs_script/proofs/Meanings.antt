-- A line means one thing, and its meaning is what is read.
use Rattle.std.proofs.Common.{◌≡◌, ◌≤◌, ◌<◌, ℕ, Bool, true, false, cond, List, length, refl, sym, ap, subst, ◌∙◌, inl, inr, arith}
use Rattle.std.specs.Prelude.{nat_lt, Option, Some, None, ok_or, Result, Ok, Err}
use Rattle.std.proofs.lemmas.Bool.{ltb-true, ltb-false}
use mathlib.Core.Bool.{true≢false}
use Rattle.dfs_record.specs.Pieces.{words}
use Rattle.dfs_script.specs.declared.Line.{Line}
use Rattle.dfs_script.specs.declared.Line.TheVariants.{Nothing}
use Rattle.dfs_script.specs.declared.LineFault.{LineFault}
use Rattle.dfs_script.specs.declared.LineFault.TheVariants.{Long, Syntax, NoMemory}
use Rattle.dfs_script.specs.Line.{without_cr, is_comment, is_printable, line_of, said_in_words, said_by, meaning}
use Rattle.dfs_script.specs.Means.{Says, TextMeans, Means, MeansOne}
use Rattle.dfs_script.specs.Read.{IsMeaning, AnswersAll, IsAnswer}
use Rattle.dfs_script.proofs.Reading.{no_value, same_value, reads_the_grammar}

-- ---- what is read is meant

in_words : (text : List ℕ) → length text ≤ 8192 → is_comment text ≡ false → is_printable text ≡ true
    → (o : Option Line) → line_of (words 32 text) ≡ o → TextMeans text (ok_or o Syntax)
in_words text short plain printable (Some command) e = (short, inr (plain, printable, (reads_the_grammar (words 32 text) command).0 e))
in_words text short plain printable None e = (short, λ command says. none command says)
  where
    none : (command : Line) → ¬ (Says text command)
    none command (inl (comment, _)) = true≢false (sym comment ∙ plain)
    none command (inr (_, _, form)) = no_value (sym e ∙ (reads_the_grammar (words 32 text) command).1 form)

other_bytes : (text : List ℕ) → length text ≤ 8192 → is_comment text ≡ false → is_printable text ≡ false → TextMeans text (Err Syntax)
other_bytes text short plain odd = (short, λ command says. none command says)
  where
    none : (command : Line) → ¬ (Says text command)
    none command (inl (comment, _)) = true≢false (sym comment ∙ plain)
    none command (inr (_, printable, _)) = true≢false (sym printable ∙ odd)

no_comment : (text : List ℕ) → length text ≤ 8192 → is_comment text ≡ false → TextMeans text (said_in_words text)
no_comment text short plain = by (is_printable text) refl
  where
    by : (t : Bool) → is_printable text ≡ t → TextMeans text (cond t (ok_or (line_of (words 32 text)) Syntax) (Err Syntax))
    by true e = in_words text short plain e (line_of (words 32 text)) refl
    by false e = other_bytes text short plain e

not_long : (text : List ℕ) → length text ≤ 8192 → TextMeans text (cond (is_comment text) (Ok Nothing) (said_in_words text))
not_long text short = by (is_comment text) refl
  where
    by : (t : Bool) → is_comment text ≡ t → TextMeans text (cond t (Ok Nothing) (said_in_words text))
    by true e = (short, inl (e, refl))
    by false e = no_comment text short e

meant : (text : List ℕ) → TextMeans text (said_by text)
meant text = by (nat_lt 8192 (length text)) refl
  where
    by : (t : Bool) → nat_lt 8192 (length text) ≡ t → TextMeans text (cond t (Err Long) (cond (is_comment text) (Ok Nothing) (said_in_words text)))
    by true e = ltb-true 8192 (length text) e
    by false e = not_long text (ltb-false 8192 (length text) e)

-- ---- one thing is meant

says_one : (text : List ℕ) (c d : Line) → Says text c → Says text d → c ≡ d
says_one text c d (inl (_, p)) (inl (_, q)) = p ∙ sym q
says_one text c d (inl (comment, _)) (inr (plain, _, _)) = absurd (true≢false (sym comment ∙ plain))
says_one text c d (inr (plain, _, _)) (inl (comment, _)) = absurd (true≢false (sym comment ∙ plain))
says_one text c d (inr (_, _, f)) (inr (_, _, g)) =
    same_value (sym ((reads_the_grammar (words 32 text) c).1 f) ∙ (reads_the_grammar (words 32 text) d).1 g)

means_one_thing : (text : List ℕ) (a b : Result Line LineFault) → TextMeans text a → TextMeans text b → a ≡ b
means_one_thing text (Ok c) (Ok d) h k = ap Ok (says_one text c d h.1 k.1)
means_one_thing text (Ok c) (Err Long) h k = let short : length text ≤ 8192 = h.0 in let long : 8192 < length text = k in absurd (omega arith)
means_one_thing text (Ok c) (Err Syntax) h k = absurd (k.1 c h.1)
means_one_thing text (Ok c) (Err NoMemory) h k = absurd k
means_one_thing text (Err Long) (Ok d) h k = let short : length text ≤ 8192 = k.0 in let long : 8192 < length text = h in absurd (omega arith)
means_one_thing text (Err Long) (Err Long) h k = refl
means_one_thing text (Err Long) (Err Syntax) h k = let short : length text ≤ 8192 = k.0 in let long : 8192 < length text = h in absurd (omega arith)
means_one_thing text (Err Long) (Err NoMemory) h k = absurd k
means_one_thing text (Err Syntax) (Ok d) h k = absurd (h.1 d k.1)
means_one_thing text (Err Syntax) (Err Long) h k = let short : length text ≤ 8192 = h.0 in let long : 8192 < length text = k in absurd (omega arith)
means_one_thing text (Err Syntax) (Err Syntax) h k = refl
means_one_thing text (Err Syntax) (Err NoMemory) h k = absurd k
means_one_thing text (Err NoMemory) b h k = absurd h

pub means_one : MeansOne
means_one line answer =
    (λ e. subst (λ a. TextMeans (without_cr line) a) e (meant (without_cr line)), λ h. means_one_thing (without_cr line) (meaning line) answer (meant (without_cr line)) h)

-- ---- an answer that is what the line means

pub answer_means : (result : Result Line LineFault) (line : List ℕ) → IsMeaning result line → IsAnswer result → Means line result
answer_means (Ok command) line e _ = (means_one line (Ok command)).0 e
answer_means (Err Long) line e _ = (means_one line (Err Long)).0 e
answer_means (Err Syntax) line e _ = (means_one line (Err Syntax)).0 e
answer_means (Err NoMemory) line e none = absurd none

pub answers_all : (result : Result Line LineFault) (line : List ℕ) → IsMeaning result line → AnswersAll result line
answers_all (Ok command) line e answer h = inl (sym e ∙ (means_one line answer).1 h)
answers_all (Err Long) line e answer h = inl (sym e ∙ (means_one line answer).1 h)
answers_all (Err Syntax) line e answer h = inl (sym e ∙ (means_one line answer).1 h)
answers_all (Err NoMemory) line e answer h = inr refl
