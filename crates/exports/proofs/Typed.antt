-- What the type of a memory says, said of the state that it stands for: a DeState of the machine's numbers opens to a State of the machine's numbers.
use Rattle.std.specs.Prelude.{Some, None}
use mathlib.Core.Path.{refl, ◌∙◌}
use mathlib.Core.Bool.{Bool, true, false, cond}
use mathlib.Core.List.{List, [], ◌∷◌, ◌++◌, map}
use lib.Dec.{eqb}
use lib.ListN.{length-map}
use mir.Val.{Val, vbool, vstruct, of_list}
use types.Match.{live}
use denote.Array.{each, array_val}
use denote.Builtin.{Array, f64, i64, u64}
use denote.Enum.Declared as E
use denote.Enum.Enum.{payload}
use denote.Laws.{Is}
use denote.RattleType.{RattleType, Valss, flat}
use denote.Shadow.{shadow}
use denote.Struct.Declared as D
use denote.Struct.Field.{Field}
use denote.Struct.Struct.{AreAll}
use Rattle.std.specs.contracts.option.Option as O
use Rattle.distribution.specs.contracts.CategoricalDistribution as CD
use Rattle.distribution.specs.contracts.DimensionInfo as DI
use Rattle.distribution.specs.contracts.Distribution as DD
use Rattle.distribution.specs.contracts.FloatDistribution as FD
use Rattle.distribution.specs.contracts.IntDistribution as ID
use Rattle.distribution.specs.declared.Distribution.TheVariants.{Float as FloatD, Int as IntD, Categorical}
use Rattle.evolution.specs.contracts.BoundsRule as BR
use Rattle.evolution.specs.contracts.DEStrategy as ST
use Rattle.evolution.specs.contracts.Setup as SU
use Rattle.evolution.specs.declared.BoundsRule.{BoundsRule}
use Rattle.evolution.specs.declared.BoundsRule.TheVariants.{Clamp, Midpoint}
use Rattle.evolution.specs.declared.DEStrategy.{DEStrategy}
use Rattle.evolution.specs.declared.DEStrategy.TheVariants.{Rand1, Best1, CurrentToBest1}
use Rattle.state.specs.contracts.State as S
use Rattle.edge.specs.contracts.flat.DeDistribution as FlatD
use Rattle.edge.specs.contracts.flat.DeSetup as FlatU
use Rattle.edge.specs.contracts.flat.DeState as F
use Rattle.edge.specs.Flat.{strategy_of, rule_of, setup_of, float_of, int_of, distribution_of, dim_of, open_with, open_of}
use Rattle.edge.specs.declared.flat.DeDistribution.{DeDistribution}
use Rattle.edge.specs.declared.flat.DeSetup.{DeSetup}
use Rattle.edge.specs.declared.flat.DeState.{DeState}

-- a machine value that the field's type relates to x
abbrev pub Fits : (F : Field) → F.Value → Type 0
Fits F x = (v : Val) × Is F.row (F.into x) (v ∷ [])

-- of a struct by its fields, of an enum by its live variant's
struct-fits : (T : D.Declared) (d : T.D) (vss : Valss (D.fields T)) → AreAll (D.fields T) (T.to d) vss → Fits (D.field T) d
struct-fits T d vss h = (vstruct (of_list (flat (D.fields T) vss)), (vss, (refl, h)))

enum-fits : (T : E.Declared) (d : T.D) (us : List Val) → shadow (payload (E.variants T) (T.to d) us) → Fits (E.field T) d
enum-fits T d us h = (live (E.tag_of T d) (of_list us), (us, (refl, h)))

-- of an option by what it holds, where b does not say that it holds nothing
option-fits : (R : RattleType) (b : Bool) (x : R.Denot) (vs : List Val) → Is R x vs → Fits (O.the_field R) (cond b None (Some x))
option-fits R true x vs p = enum-fits (O.the_type R) None [] (tt, (refl, tt))
option-fits R false x vs p = enum-fits (O.the_type R) (Some x) (vs ++ []) ((vs, tt), (refl, (p, tt)))

-- ---- the set-up

strategy : (t : DEStrategy) → Fits ST.the_field t
strategy Rand1 = enum-fits ST.the_type Rand1 [] (tt, (refl, tt))
strategy Best1 = enum-fits ST.the_type Best1 [] (tt, (refl, tt))
strategy CurrentToBest1 = enum-fits ST.the_type CurrentToBest1 [] (tt, (refl, tt))

rule : (t : BoundsRule) → Fits BR.the_field t
rule Clamp = enum-fits BR.the_type Clamp [] (tt, (refl, tt))
rule Midpoint = enum-fits BR.the_type Midpoint [] (tt, (refl, tt))

pub setup : (u : DeSetup) (vs : List Val) → Is (FlatU.the_field).row ((FlatU.the_field).into u) vs → Fits SU.the_field (setup_of u)
unfolding setup_of
setup u vs p =
    let a = p.0 in
    let q = p.1.1 in
    let t = strategy (strategy_of u.strategy) in
    let r = rule (rule_of u.bounds_rule) in
    let z = option-fits u64 (eqb u.sized 0) u.population_size _ q.1.1.1.1.0 in
    struct-fits SU.the_type (setup_of u) (a.0, (a.1.0, (t.0 ∷ [], (z.0 ∷ [], (a.1.1.1.1.1.0, (r.0 ∷ [], a.1.1.1.1.1.1.1))))))
    (q.0, (q.1.0, (t.1, (z.1, (q.1.1.1.1.1.0, (r.1, q.1.1.1.1.1.1.1))))))

-- ---- a dimension

module _ (d : DeDistribution) (vs : List Val) (p : Is (FlatD.the_field).row ((FlatD.the_field).into d) vs) where
  abbrev a : Valss (D.fields FlatD.the_type)
  a = p.0

  -- kind; low, high; whole_low, whole_high; log_scale, stepped; step, whole_step; n_choices
  abbrev q : AreAll (D.fields FlatD.the_type) ((FlatD.the_type).to d) a
  q = p.1.1

  float : Fits FD.the_field (float_of d)
  float =
      let s = option-fits f64 (eqb d.stepped 0) d.step _ q.1.1.1.1.1.1.1.0 in
      struct-fits FD.the_type (float_of d) (a.1.0, (a.1.1.0, (vbool (eqb d.log_scale 1) ∷ [], (s.0 ∷ [], tt)))) (q.1.0, (q.1.1.0, (refl, (s.1, tt))))

  int : Fits ID.the_field (int_of d)
  int =
      let s = option-fits i64 (eqb d.stepped 0) d.whole_step _ q.1.1.1.1.1.1.1.1.0 in
      struct-fits ID.the_type (int_of d) (a.1.1.1.0, (a.1.1.1.1.0, (vbool (eqb d.log_scale 1) ∷ [], (s.0 ∷ [], tt)))) (q.1.1.1.0, (q.1.1.1.1.0, (refl, (s.1, tt))))

  choice : Fits CD.the_field (record { n_choices = d.n_choices })
  choice = struct-fits CD.the_type (record { n_choices = d.n_choices }) a.1.1.1.1.1.1.1.1.1 q.1.1.1.1.1.1.1.1.1

  pub distribution : Fits DD.the_field (distribution_of d)
  unfolding distribution_of
  distribution = go (eqb d.kind 1) (eqb d.kind 2)
    where
      go : (x y : Bool) → Fits DD.the_field (cond x (FloatD (float_of d)) (cond y (IntD (int_of d)) (Categorical (record { n_choices = d.n_choices }))))
      go true y = enum-fits DD.the_type (FloatD (float_of d)) (float.0 ∷ []) ((float.0 ∷ [], tt), (refl, (float.1, tt)))
      go false true = enum-fits DD.the_type (IntD (int_of d)) (int.0 ∷ []) ((int.0 ∷ [], tt), (refl, (int.1, tt)))
      go false false = enum-fits DD.the_type (Categorical (record { n_choices = d.n_choices })) (choice.0 ∷ []) ((choice.0 ∷ [], tt), (refl, (choice.1, tt)))

  dimension : Fits DI.the_field (dim_of d)
  dimension = struct-fits DI.the_type (dim_of d) (distribution.0 ∷ [], tt) (distribution.1, tt)

dims-each : (ds : List DeDistribution) (us : List Val) → shadow (each (FlatD.the_row).Denot (FlatD.the_row).own_val ds us)
    → (ws : List Val) × shadow (each (DI.the_row).Denot (DI.the_row).own_val (map dim_of ds) ws)
dims-each [] [] p = ([], tt)
dims-each [] (u ∷ us) p = absurd p
dims-each (d ∷ ds) [] p = absurd p
dims-each (d ∷ ds) (u ∷ us) p =
    let x = dimension d (u ∷ []) p.0 in
    let r = dims-each ds us p.1 in
    (x.0 ∷ r.0, (x.1, r.1))

dims : (ds : List DeDistribution) (vs : List Val) → Is (Array FlatD.the_row tt 16) ds vs → (v : Val) × Is (Array DI.the_row tt 16) (map dim_of ds) (v ∷ [])
dims ds vs p =
    let r = dims-each ds p.0 p.1.1 in
    (array_val r.0, (r.0, ((refl, length-map ds dim_of ∙ p.1.0.1), r.1)))

-- ---- the state

pub opened-typed : (f : DeState) (us : List Val) → Is F.the_row f us → (v : Val) × Is S.the_row (open_of f) (v ∷ [])
unfolding open_with
opened-typed f us p =
    let a = p.0 in
    let q = p.1.1 in
    let u = setup f.setup _ q.0 in
    let t = option-fits u64 (eqb f.named 0) f.first _ q.1.1.0 in
    let ds = dims f.dims _ q.1.1.1.1.1.1.0 in
    struct-fits S.the_type (open_of f)
    (u.0 ∷ [], (t.0 ∷ [], (vbool (eqb f.discovered 1) ∷ [], (a.1.1.1.1.0, (a.1.1.1.1.1.0, (ds.0 ∷ [], a.1.1.1.1.1.1.1))))))
    (u.1, (t.1, (refl, (q.1.1.1.1.0, (q.1.1.1.1.1.0, (ds.1, q.1.1.1.1.1.1.1))))))
