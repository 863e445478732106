-- The value has no bytes, and its ghost field is the list that the type parameter names.
use Rattle.atomic_table.proofs.Names.{◌≡◌, [], ◌∷◌, refl, a_type, dcons, dnil, Val, inst_fn, SProp, emp, ‵, raw, ◌⊛◌, ◌$◌, ◌∵◌, !, qed, by, keep, split, use0, no_more, and_then, returns, enter, alloc_all, pass_all, free_all, look_at, get, sets, agg, tables, RattleType, owns, types_at, nothing, param, bounded, alive, Stays, walk_of, fact, fact_i, makes_shadow}
use Rattle.atomic_table.proofs.Walks.{proved, leaves}
use mir.Val.{vstruct, vcons, vnil}
use Rattle.ghost_list.specs.contracts.list.GhostList as opening
use Rattle.ghost_list.specs.contracts.list.GhostList.of.{ended, clauses}
use Rattle.ghost_list.specs.contracts.list.GhostList.of.Key.{name as #self}
use Rattle.ghost_list.proofs.list.GhostList.of.Statement.{statement}
use Rattle.ghost_list.proofs.list.GhostList.of.Code as code

pub of_spec : {M : Type 1} → statement M
of_spec 𝓤 𝓛 𝓜 𝓡 wired X L _ _ g d _ =
    let H = 𝓛.H in let 𝓣 = tables 𝓤 H 𝓜 𝓡 𝓡.env in let W : RattleType = param 0 X in let En = ended X L g d in let c = clauses X L g d 𝓛 𝓜.mem 𝓡.returns in
    let inst = bounded (a_type ∷ a_type ∷ []) (X, (L, tt)) (dcons d dnil) in let fn = inst_fn inst code.function in let closed = code.unfolded 𝓤 H 𝓜 𝓡 wired (X, (L, tt)) d in let Or : RattleType = opening.the_row W in
    let hs : Stays En.signature.params En.kept = tt in let token : Val = vstruct (vcons (vstruct vnil) vnil) in
    proved 𝓛 En hs c 𝓜 𝓡 tt (#self inst) fn closed (λ κs. tt) (λ κs. tt) (λ κs qs bounds a gh are.
    let r : Or.Denot = record { marker = record {}; items = g.list } in
    let Told : Type 0 = r.items ≡ g.list in let y : (walk_of 𝓛 En hs c).Ghost = ((κs, qs, bounds, a, tt), gh) in let Post : Val → SProp 𝓤 = (walk_of 𝓛 En hs c).post y in
    qed 𝓛 ((raw (alive 𝓛 En.signature κs qs) ⊛ ‵ (owns (types_at En.signature.params κs) a y.0.4)) ∷ raw ((c κs a).requires gh) ∷ []) ∵
    split ! $ keep ! (0 ∷ []) $ use0 𝓛 (‵ (Or.own_val r (token ∷ []))) (makes_shadow 𝓛 (Or.own_val r (token ∷ [])) ((λ vss. (tt, ((λ uss. (tt, tt)), tt))), tt) (((vstruct vnil ∷ [], tt), (refl, ((tt, (refl, tt)), tt))), tt)) $
    enter ! 𝓣.C 𝓣.Λ fn [] Post $ alloc_all ! (λ l. pass_all ! refl tt $
    sets ! (agg ! (no_more !)) refl (tt, tt) $ sets ! (agg ! (and_then ! (get ! refl) (no_more !))) refl (tt, (tt, tt)) $
    use0 𝓛 (raw (fact 𝓤 Told)) (fact_i 𝓤 Told (emp 𝓤) refl) $ nothing ! $
    returns ! (look_at ! 0 refl) $ free_all ! refl $ keep ! (3 ∷ 0 ∷ 2 ∷ 1 ∷ []) $ by ! (leaves 𝓛 En hs c y token r tt tt)))
