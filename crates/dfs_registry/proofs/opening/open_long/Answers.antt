use Rattle.std.proofs.Common.{sym, ◌∙◌, subst}
use Rattle.dfs_host.specs.Disk.{IsSettled}
use Rattle.dfs_host.proofs.Moments.{only_goes_on, reads_go_on, reads_only}
use Rattle.dfs_registry.specs.Opening.{IsShut}
use Rattle.dfs_registry.proofs.Steps.{stood, reads_leave, close_leaves, other_header}
use Rattle.dfs_registry.proofs.opening.open_long.Goals as goal

pub returns-in_err-registry-in-Ok-true-clause-images : goal.returns-in_err-registry-in-Ok-true-clause-images
returns-in_err-registry-in-Ok-true-clause-images g c tells settled = reads_leave settled (reads_go_on c.has_header.ensures.only c.read_gates.ensures.only) tells

pub returns-in-Ok-clause-answer : goal.returns-in-Ok-clause-answer
returns-in-Ok-clause-answer g c tells =
    stood c.has_header.ensures.only tells c.in_ok-registry-in-Ok-true.ensures.listing (c.in_ok-registry-in-Ok-true.ensures.ends (c.has_header.ensures.only.tells ∙ tells))

pub returns-in-Ok-clause-images : goal.returns-in-Ok-clause-images
returns-in-Ok-clause-images g c tells settled =
    let only = reads_go_on c.has_header.ensures.only c.read_gates.ensures.only in
    close_leaves settled only tells
    (stood c.has_header.ensures.only tells c.in_ok-registry-in-Ok-true.ensures.listing (c.in_ok-registry-in-Ok-true.ensures.ends (c.has_header.ensures.only.tells ∙ tells)))
    (c.close.ensures.images (only.tells ∙ tells) (subst (λ d. IsSettled (d.files 0)) (sym (only.content tells).disk) settled))

pub returns-in-Err-close-clause-images : goal.returns-in-Err-close-clause-images
returns-in-Err-close-clause-images g c tells settled =
    let only = reads_go_on c.has_header.ensures.only c.read_gates.ensures.only in
    close_leaves settled only tells
    (stood c.has_header.ensures.only tells c.in_ok-registry-in-Ok-true.ensures.listing (c.in_ok-registry-in-Ok-true.ensures.ends (c.has_header.ensures.only.tells ∙ tells)))
    (c.close.ensures.images (only.tells ∙ tells) (subst (λ d. IsSettled (d.files 0)) (sym (only.content tells).disk) settled))

pub returns-in-Ok-false-clause-answer : goal.returns-in-Ok-false-clause-answer
returns-in-Ok-false-clause-answer g c tells = other_header _ (c.requires.long tells) (sym (c.in-Ok-false.ensures.answer tells) ∙ c.in-Ok-false.field-0-test)

pub returns-in-Ok-false-clause-images : goal.returns-in-Ok-false-clause-images
returns-in-Ok-false-clause-images g c tells settled = reads_leave settled c.has_header.ensures.only tells

pub returns-in-Err-clause-images : goal.returns-in-Err-clause-images
returns-in-Err-clause-images g c tells settled = reads_leave settled c.has_header.ensures.only tells

pub returns-in_err-registry-in-Ok-true-clause-only : goal.returns-in_err-registry-in-Ok-true-clause-only
returns-in_err-registry-in-Ok-true-clause-only g c = reads_only (reads_go_on c.has_header.ensures.only c.read_gates.ensures.only)

pub returns-in-Ok-clause-only : goal.returns-in-Ok-clause-only
returns-in-Ok-clause-only g c = only_goes_on (reads_only (reads_go_on c.has_header.ensures.only c.read_gates.ensures.only)) c.close.ensures.only

pub returns-in-Err-close-clause-only : goal.returns-in-Err-close-clause-only
returns-in-Err-close-clause-only g c = only_goes_on (reads_only (reads_go_on c.has_header.ensures.only c.read_gates.ensures.only)) c.close.ensures.only

pub returns-in-Ok-false-clause-only : goal.returns-in-Ok-false-clause-only
returns-in-Ok-false-clause-only g c = reads_only c.has_header.ensures.only

pub returns-in-Err-clause-only : goal.returns-in-Err-clause-only
returns-in-Err-clause-only g c = reads_only c.has_header.ensures.only

pub returns-in-Ok-clause-shut : goal.returns-in-Ok-clause-shut
returns-in-Ok-clause-shut g c tells shut =
    absurd (subst IsShut (stood c.has_header.ensures.only tells c.in_ok-registry-in-Ok-true.ensures.listing (c.in_ok-registry-in-Ok-true.ensures.ends (c.has_header.ensures.only.tells ∙ tells))) shut)

pub returns-in-Err-close-clause-shut : goal.returns-in-Err-close-clause-shut
returns-in-Err-close-clause-shut g c tells shut =
    absurd (subst IsShut (stood c.has_header.ensures.only tells c.in_ok-registry-in-Ok-true.ensures.listing (c.in_ok-registry-in-Ok-true.ensures.ends (c.has_header.ensures.only.tells ∙ tells))) shut)
