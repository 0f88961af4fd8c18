use Rattle.std.proofs.Common.{◌≡◌, ◌<◌, ◌+◌, ℕ, List, ◌∙◌, ap, sym, subst, length, map, take, get_or, rules, arith, take_all}
use Rattle.std.proofs.lemmas.List.{take_more}
use Rattle.arr_elab.specs.Recording.{other_names}
use Rattle.arr_record.specs.Ledger.{Ledger, Owned}
use Rattle.arr_record.proofs.Ledgers.{without, without_more, none_left}
use Rattle.arr_record.proofs.owners.Owners.release_all.Goals as goal

pub loop-name-preserved : goal.loop-name-preserved
loop-name-preserved c =
    λ names live owned.
    let items : List ℕ = c.deref-name-items.result.now in
    let i : ℕ = c.loop-name.name-index in
    let here : i < length items = omega arith in
    let so_far : Owned c.loop-name.self (without (take i items) names) live = c.loop-name.invariant names live owned in
    let more : without (take (i + 1) items) names ≡ other_names (get_or items i 0) (without (take i items) names) =
    ap (λ ks. without ks names) (take_more items i 0 here) ∙ without_more (take i items) (get_or items i 0) names in
    subst (λ ns. Owned c.release.new.self ns live) (sym more) (c.in_ok-release.ensures.owned (without (take i items) names) live so_far)

pub returns : goal.returns
returns c =
    λ names live owned.
    let items : List ℕ = c.deref-name-items.result.now in
    let inside : c.in_ok-names.names.items ≡ map (λ (e : ℕ × ℕ). e.0) c.self.inside.names.entries = search rules in
    let keys : items ≡ map (λ (e : ℕ × ℕ). e.0) c.args.self.now.names = c.deref-name-items.ensures.value ∙ inside ∙ ap (λ (o : Ledger). map (λ (e : ℕ × ℕ). e.0) o.names) c.self.view_is in
    let all : take c.loop-name.name-index items ≡ items = take_all c.loop-name.name-index items (omega arith) in
    none_left c.args.self.now c.loop-name.self names live owned
    (subst (λ ks. Owned c.loop-name.self (without ks names) live) (all ∙ keys) (c.loop-name.invariant names live owned))
