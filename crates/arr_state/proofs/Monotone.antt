-- What is tried stays tried as more facts are known.
use Rattle.std.proofs.Common.{◌≡◌, ℕ, ◌+◌, ◌<◌, ◌≤◌, List, length, subst, arith, ⊎_elim}
use Rattle.std.proofs.lemmas.Bool.{cases_lt}
use Rattle.arr_law.specs.declared.fact.Fact.{Fact}
use Rattle.arr_law.specs.Problem.{Problem}
use Rattle.arr_law.specs.Facts.{Facts}
use Rattle.arr_law.specs.Floor.{Within}
use Rattle.arr_state.specs.declared.jobs.Job.{Job}
use Rattle.arr_state.specs.declared.jobs.Job.TheVariants.{Two, Behind, Front, Frees}
use Rattle.arr_state.specs.Jobs.{Tried, TriedAt, JobTried, job_at, jobs_of, JobsBelow, IsTouched, FreesBelow}
use Rattle.arr_state.proofs.Wents.{tried_more}

abbrev pub IsMono : (Facts → Facts → Type 0) → Type 0
IsMono P = (a b c d : Facts) → Within a b → Within c d → P b c → P a d

pub below_mono : (P : ℕ → Facts → Facts → Type 0) (limit : ℕ) → ((k : ℕ) → IsMono (P k)) → IsMono (λ a b. (k : ℕ) → k < limit → P k a b)
below_mono P limit mono a b c d l m p k lk = mono k a b c d l m (p k lk)

pub below_step : (P : ℕ → Facts → Facts → Type 0) → ((k : ℕ) → IsMono (P k)) → (i : ℕ) (a b c : Facts) → Within a b → Within b c → ((k : ℕ) → k < i → P k a b) → P i b c → (k : ℕ) → k < i + 1 → P k a c
below_step P mono i a b c l m old new k lk =
    ⊎_elim
    (λ (less : k < i). mono k a a b c (λ x e. e) m (old k less))
    (λ (most : i ≤ k). let same : i ≡ k = omega arith in subst (λ j. P j a c) same (mono i a b c c l (λ x e. e) new))
    (cases_lt k i)

pub tried_mono : (problem : Problem) (n f g h : ℕ) → IsMono (Tried problem n f g h)
tried_mono problem n f g h a b c d l m t = tried_more problem n f g h a b c d l m t

pub at_mono : (problem : Problem) (j : Job) (c : ℕ) → IsMono (TriedAt problem j c)
at_mono problem (Two n f g) c = tried_mono problem n f g 0
at_mono problem (Behind n f g) c = tried_mono problem n f g c
at_mono problem (Front n g h) c = tried_mono problem n c g h
at_mono problem (Frees u f) c = λ a b d e l m t user. tried_mono problem 9 f c 0 a b d e l m (t user)

pub job_mono : (problem : Problem) (j : Job) → IsMono (JobTried problem j)
job_mono problem j = below_mono (λ c. TriedAt problem j c) (problem.count + 1) (λ c. at_mono problem j c)

pub jobs_mono : (problem : Problem) (limit : ℕ) (jobs : List Job) → IsMono (JobsBelow problem limit jobs)
jobs_mono problem limit jobs = below_mono (λ k. JobTried problem (job_at jobs k)) limit (λ k. job_mono problem (job_at jobs k))

pub touched_mono : (problem : Problem) (x : Fact) → IsMono (IsTouched problem x)
touched_mono problem x = jobs_mono problem (length (jobs_of x)) (jobs_of x)

pub frees_mono : (problem : Problem) (limit f : ℕ) → IsMono (FreesBelow problem limit f)
frees_mono problem limit f = below_mono (λ g. Tried problem 9 f g 0) limit (λ g. tried_mono problem 9 f g 0)
