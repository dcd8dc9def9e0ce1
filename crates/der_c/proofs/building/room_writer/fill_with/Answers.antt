use Rattle.std.proofs.Common.{◌≡◌, ℕ, ◌<◌, ◌≤◌, ◌^◌, Bool, true, false, length, inl, inr, arith, refl}
use Rattle.der_c.proofs.building.room_writer.fill_with.Goals as goal

pub returns-in-Err : goal.returns-in-Err
returns-in-Err g c =
    let never : ⊥ = elim c.in-Err.ensures [
      | inl refused ↦ (let few = refused.short refl in omega arith)
      | inr stopped ↦ elim stopped.reason [
        | inl long ↦ (let many = long.1 in omega arith)
        | inr memory ↦ (let takes = g.T.Form.re_reads_memory c.args.value.now memory.1 in cc)
      ]
    ] in
    absurd never
