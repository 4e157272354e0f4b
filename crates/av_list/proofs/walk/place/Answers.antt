-- There is a vertex at the place, and placing it leaves the same trees.
use Rattle.std.proofs.Common.{◌++◌, ◌∷◌, arith, subst, sym}
use Rattle.av_sys.specs.declared.terms.System.{System}
use Rattle.av_list.specs.Vertices.{dues_below}
use Rattle.av_list.specs.Derivations.{EachDue}
use Rattle.av_list.proofs.Rooms.{derives_each, due_upto}
use Rattle.av_list.proofs.Placing.{IsPlaced, place_all, place_none, placed_as}
use Rattle.av_list.proofs.walk.place.Goals as goal

pub factor_after-factor-requires : goal.factor_after-factor-requires
factor_after-factor-requires c =
    let each = derives_each c.args.system.now c.requires.formed c.args.derivation.now.size c.requires.least c.requires.formed.some c.requires.some c.args.derivation.now.placed _ c.requires.derives in
    subst (λ (S : System). EachDue S c.args.table.now.largest c.args.derivation.now.due) (sym c.requires.stands) (due_upto c.args.system.now c.args.derivation.now.size c.args.table.now.largest c.args.derivation.now.due c.requires.most each.1)

pub choose-requires-clause-equation : goal.choose-requires-clause-equation
choose-requires-clause-equation c =
    (derives_each c.args.system.now c.requires.formed c.args.derivation.now.size c.requires.least c.requires.formed.some c.requires.some c.args.derivation.now.placed _ c.requires.derives).0.equation

pub choose-requires-clause-most : goal.choose-requires-clause-most
choose-requires-clause-most c =
    let each = derives_each c.args.system.now c.requires.formed c.args.derivation.now.size c.requires.least c.requires.formed.some c.requires.some c.args.derivation.now.placed _ c.requires.derives in
    omega (arith, each.0.most, c.requires.most)

pub returns-in-None : goal.returns-in-None
returns-in-None c =
    absurd (place_none c.args.system.now c.args.table.now.system c.requires.formed c.args.due c.args.derivation.now.due c.args.r c.factor_after-factor.result c.requires.stands c.requires.within c.factor_after-factor.ensures (λ F h. c.in-None.ensures F h))

pub put-requires-clause-derives : goal.put-requires-clause-derives
put-requires-clause-derives c =
    (place_all c.args.system.now c.args.table.now.system c.requires.formed c.args.derivation.now.size c.requires.least c.requires.some
    c.args.due c.args.derivation.now.placed c.args.derivation.now.due c.args.r c.in-Some.pick.left c.factor_after-factor.result c.in-Some.pick.vertex
    c.requires.stands c.requires.derives c.requires.within c.factor_after-factor.ensures (λ F h. c.in-Some.ensures F h)).derives

-- the vertex that was found is placed once it is put
put_placed : (c : goal.After-put) → IsPlaced c.args.system.now c.args.derivation.now.size c.args.due c.args.derivation.now.placed c.args.derivation.now.due c.args.r c.put.new.derivation.placed c.put.new.derivation.due c.in-Some.pick.left
put_placed c = placed_as c.args.system.now c.args.derivation.now.size c.args.due c.args.derivation.now.placed c.args.derivation.now.due c.args.r
    (c.in-Some.pick.vertex ∷ c.args.derivation.now.placed) c.put.new.derivation.placed
    (dues_below c.args.system.now c.in-Some.pick.vertex ++ c.args.derivation.now.due) c.put.new.derivation.due
    c.in-Some.pick.left c.put.ensures.placed c.put.ensures.due
    (place_all c.args.system.now c.args.table.now.system c.requires.formed c.args.derivation.now.size c.requires.least c.requires.some
    c.args.due c.args.derivation.now.placed c.args.derivation.now.due c.args.r c.in-Some.pick.left c.factor_after-factor.result c.in-Some.pick.vertex
    c.requires.stands c.requires.derives c.requires.within c.factor_after-factor.ensures (λ F h. c.in-Some.ensures F h))

pub returns-in-Some-clause-same : goal.returns-in-Some-clause-same
returns-in-Some-clause-same c = (put_placed c).same

pub returns-in-Some-clause-within : goal.returns-in-Some-clause-within
returns-in-Some-clause-within c = (put_placed c).within

pub returns-in-Some-clause-derives : goal.returns-in-Some-clause-derives
returns-in-Some-clause-derives c = (put_placed c).derives

pub returns-in-Some-clause-less : goal.returns-in-Some-clause-less
returns-in-Some-clause-less c = (put_placed c).less
