-- The normal form is reached: with the potential as fuel no application is left, and what each application keeps is kept.
use Rattle.std.proofs.Common.{◌≡◌, ℕ, ◌<◌, ◌≤◌, suc, zero, List, refl, ◌∙◌, arith, Some, None}
use Rattle.arr_rewrite.specs.NextRewrite.{next_rewrite}
use Rattle.arr_rewrite.specs.NormalForm.{potential, normal_within, normal_form}
use Rattle.arr_ops.specs.declared.op.Op.{Op}

-- P is kept by each application, which lowers the potential
pub record Falls (P : List Op → Type 0) : Type 0 where
  pub kept : (list next : List Op) → P list → next_rewrite list ≡ Some next → P next
  pub less : (list next : List Op) → P list → next_rewrite list ≡ Some next → potential next < potential list

-- one application, and so many more
once : (n : ℕ) (list next : List Op) → next_rewrite list ≡ Some next → normal_within (suc n) list ≡ normal_within n next
once n list next e = λ i. elim (e i) as (λ o. List Op) [ None ↦ list | Some new ↦ normal_within n new ]

module _ (P : List Op → Type 0) (falls : Falls P) where
  ends_within : (n : ℕ) (list : List Op) → P list → potential list ≤ n → next_rewrite (normal_within n list) ≡ None
  ends_within zero list p h =
      elim (next_rewrite list) as (λ o. next_rewrite list ≡ o → o ≡ None) [
        | None ↦ λ e. refl
        | Some next ↦ λ e. let l : potential next < potential list = falls.less list next p e in absurd (omega arith)
      ] refl
  ends_within (suc n) list p h =
      elim (next_rewrite list) as (λ o. next_rewrite list ≡ o → next_rewrite (elim o as (λ k. List Op) [ None ↦ list | Some next ↦ normal_within n next ]) ≡ None) [
        | None ↦ λ e. e
        | Some next ↦ λ e. let l : potential next < potential list = falls.less list next p e in ends_within n next (falls.kept list next p e) (omega arith)
      ] refl

  pub ends : (list : List Op) → P list → next_rewrite (normal_form list) ≡ None
  ends list p = ends_within (potential list) list p (omega arith)

  kept_within : (n : ℕ) (list : List Op) → P list → P (normal_within n list)
  kept_within zero list p = p
  kept_within (suc n) list p =
      elim (next_rewrite list) as (λ o. next_rewrite list ≡ o → P (elim o as (λ k. List Op) [ None ↦ list | Some next ↦ normal_within n next ])) [
        | None ↦ λ e. p
        | Some next ↦ λ e. kept_within n next (falls.kept list next p e)
      ] refl

  pub stays : (list : List Op) → P list → P (normal_form list)
  stays list p = kept_within (potential list) list p

  -- fuel beyond the potential changes nothing
  alike : (j k : ℕ) (list : List Op) → P list → potential list ≤ j → potential list ≤ k → normal_within j list ≡ normal_within k list
  alike zero zero list p g h = refl
  alike zero (suc k) list p g h =
      elim (next_rewrite list) as (λ o. next_rewrite list ≡ o → list ≡ elim o as (λ x. List Op) [ None ↦ list | Some next ↦ normal_within k next ]) [
        | None ↦ λ e. refl
        | Some next ↦ λ e. let l : potential next < potential list = falls.less list next p e in absurd (omega arith)
      ] refl
  alike (suc j) zero list p g h =
      elim (next_rewrite list) as (λ o. next_rewrite list ≡ o → elim o as (λ x. List Op) [ None ↦ list | Some next ↦ normal_within j next ] ≡ list) [
        | None ↦ λ e. refl
        | Some next ↦ λ e. let l : potential next < potential list = falls.less list next p e in absurd (omega arith)
      ] refl
  alike (suc j) (suc k) list p g h =
      elim (next_rewrite list) as (λ o. next_rewrite list ≡ o → elim o as (λ x. List Op) [ None ↦ list | Some next ↦ normal_within j next ] ≡ elim o as (λ x. List Op) [ None ↦ list | Some next ↦ normal_within k next ]) [
        | None ↦ λ e. refl
        | Some next ↦ λ e. let l : potential next < potential list = falls.less list next p e in alike j k next (falls.kept list next p e) (omega arith) (omega arith)
      ] refl

  -- an application does not change the normal form
  pub steps : (list next : List Op) → P list → next_rewrite list ≡ Some next → normal_form list ≡ normal_form next
  steps list next p e =
      let l : potential next < potential list = falls.less list next p e in
      alike (potential list) (suc (potential list)) list p (omega arith) (omega arith) ∙ once (potential list) list next e
      ∙ alike (potential list) (potential next) next (falls.kept list next p e) (omega arith) (omega arith)

-- where no application is left, the list is its own normal form
pub here : (n : ℕ) (list : List Op) → next_rewrite list ≡ None → normal_within n list ≡ list
here zero list e = refl
here (suc n) list e = λ i. elim (e i) as (λ o. List Op) [ None ↦ list | Some new ↦ normal_within n new ]
