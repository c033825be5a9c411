-- The texts of replies that worked scripts have.
use Rattle.std.specs.Prelude.{◌≡◌, [], ◌∷◌, flat_map, codes, refl}
use Rattle.std.specs.Fmt.{digits}
use Rattle.dfs_record.specs.declared.Entry.TheVariants.{Dir, File}
use Rattle.dfs_record.specs.Key.{root}
use Rattle.dfs_reply.specs.Text.{text}
use Rattle.dfs_reply.specs.declared.Word.TheVariants.{Syntax, Long, LiveJob, NoJob, Full, NoSnap, Taken, Root, NoEnt, NotDir, IsDir, Exists, NotEmpty, Inside}
use Rattle.dfs_reply.specs.declared.Reply.TheVariants.{Nothing, Ok, Job, Stat, Listing, Snapshots, Stats, Published, Damaged, Error}

pub nothing : text Nothing ≡ []
nothing = refl

pub ok : text Ok ≡ codes "ok\n"
ok = refl

pub job : text (Job 65) ≡ codes "ok job 65\n"
unfolding digits
job = refl

pub directory : text (Stat (Dir (record { job = 1; counter = 1 }) 493 10)) ≡ codes "ok dir 0755 10 1.1\n"
unfolding digits
directory = refl

pub root_directory : text (Stat (Dir root 493 0)) ≡ codes "ok dir 0755 0 0.0\n"
unfolding digits
root_directory = refl

pub greatest_numbers : text (Stat (Dir (record { job = 1; counter = 1 }) 4095 18446744073709551615)) ≡ codes "ok dir 7777 18446744073709551615 1.1\n"
unfolding digits
greatest_numbers = refl

pub file : text (Stat (File 420 5 7 (codes "r s"))) ≡ codes "ok file 0644 5 7 r%20s\n"
unfolding digits
file = refl

pub listing : text (Listing ((codes "A", File 420 1 1 (codes "%")) ∷ (codes "f", File 420 5 7 (codes "r s")) ∷ (255 ∷ [], File 420 2 2 (codes "r")) ∷ []))
    ≡ codes "ok 3\nA file 0644 1 1 %25\nf file 0644 5 7 r%20s\n%FF file 0644 2 2 r\n"
unfolding digits
listing = refl

pub both_kinds : text (Listing ((codes "e", Dir (record { job = 1; counter = 1 }) 493 3) ∷ (codes "g", File 420 1 1 (codes "r")) ∷ []))
    ≡ codes "ok 2\ne dir 0755 3 1.1\ng file 0644 1 1 r\n"
unfolding digits
both_kinds = refl

pub no_entry : text (Listing []) ≡ codes "ok 0\n"
unfolding digits
no_entry = refl

pub snapshots : text (Snapshots ((codes "s1", 1) ∷ (codes "s2", 2) ∷ [])) ≡ codes "ok 2\ns1 1\ns2 2\n"
unfolding digits
snapshots = refl

pub stats : text (Stats 5 12) ≡ codes "ok runs 5 records 12\n"
unfolding digits
stats = refl

pub published : text (Published (codes "raw") 2003) ≡ codes "ok published raw 2003\n"
unfolding digits
published = refl

pub damaged : text (Damaged (codes "s")) ≡ codes "error damaged s\n"
damaged = refl

pub errors : flat_map (λ w. text (Error w)) (Syntax ∷ Long ∷ LiveJob ∷ NoJob ∷ Full ∷ NoSnap ∷ Taken ∷ Root ∷ NoEnt ∷ NotDir ∷ IsDir ∷ Exists ∷ NotEmpty ∷ Inside ∷ [])
    ≡ codes "error syntax\nerror long\nerror livejob\nerror nojob\nerror full\nerror nosnap\nerror taken\nerror root\nerror noent\nerror notdir\nerror isdir\nerror exists\nerror notempty\nerror inside\n"
errors = refl
