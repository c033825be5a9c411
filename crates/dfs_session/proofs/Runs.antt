-- Runs in two parts: what is written so far, and what the rest writes.
use Rattle.std.proofs.Common.{◌≡◌, ℕ, ◌+◌, List, [], ◌∷◌, ◌++◌, length, refl, sym, ap, ◌∙◌, append_assoc, length-append, arith}
use Rattle.std.specs.Prelude.{flat_map, map, drop}
use Rattle.dfs_reply.specs.declared.Reply.{Reply}
use Rattle.dfs_reply.specs.Text.{text}
use Rattle.dfs_session.specs.Session.{Session, step}
use Rattle.dfs_session.specs.Run.{session_after, replies, written, Promise, promise_of, promises}

pub session_after-append : (s : Session) (ls ms : List (List ℕ)) → session_after s (ls ++ ms) ≡ session_after (session_after s ls) ms
session_after-append s [] ms = refl
session_after-append s (l ∷ ls) ms = session_after-append (step s l).session ls ms

pub replies-append : (s : Session) (ls ms : List (List ℕ)) → replies s (ls ++ ms) ≡ replies s ls ++ replies (session_after s ls) ms
replies-append s [] ms = refl
replies-append s (l ∷ ls) ms = ap (λ rs. (step s l).reply ∷ rs) (replies-append (step s l).session ls ms)

texts-append : (rs qs : List Reply) → flat_map text (rs ++ qs) ≡ flat_map text rs ++ flat_map text qs
texts-append [] qs = refl
texts-append (r ∷ rs) qs = ap (λ x. text r ++ x) (texts-append rs qs) ∙ sym (append_assoc (text r) (flat_map text rs) (flat_map text qs))

pub written-append : (s : Session) (ls ms : List (List ℕ)) → written s (ls ++ ms) ≡ written s ls ++ written (session_after s ls) ms
written-append s ls ms = ap (flat_map text) (replies-append s ls ms) ∙ texts-append (replies s ls) (replies (session_after s ls) ms)

pub promises-append : (at : ℕ) (s : Session) (ls ms : List (List ℕ)) → promises at s (ls ++ ms) ≡ promises at s ls ++ promises (at + length (written s ls)) (session_after s ls) ms
promises-append at s [] ms =
    let same : at ≡ at + length (written s []) = omega arith in
    ap (λ (n : ℕ). promises n s ms) same
promises-append at s (l ∷ ls) ms =
    let t = step s l in
    let end = at + length (text t.reply) in
    let here : List Promise = map (promise_of at t) (drop (length s.registry) t.session.registry) in
    let long : end + length (written t.session ls) ≡ at + length (written s (l ∷ ls)) = omega (arith, length-append (text t.reply) (written t.session ls)) in
    ap (λ (ps : List Promise). here ++ ps) (promises-append end t.session ls ms ∙ ap (λ (n : ℕ). promises end t.session ls ++ promises n (session_after t.session ls) ms) long)
    ∙ sym (append_assoc here (promises end t.session ls) (promises (at + length (written s (l ∷ ls))) (session_after t.session ls) ms))
