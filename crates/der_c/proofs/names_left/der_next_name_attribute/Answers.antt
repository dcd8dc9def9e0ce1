use Rattle.std.proofs.Common.{◌+◌, ◌≡◌, ◌∙◌, arith, inl, inr, refl, sym, take}
use Rattle.der_c.specs.Building.{octets_at}
use Rattle.der_c.proofs.Left.{front_at, laid_from, left_counted, taken_counted}
use Rattle.der_c.proofs.NextPart.{attribute_refused}
use Rattle.der_c.proofs.names_left.der_next_name_attribute.Goals as goal

pub returns-in-Ok : goal.returns-in-Ok
returns-in-Ok c =
    let octets = c.args.octets.now in
    let left = c.in-Some.next.attributes in
    let front = c.in-Ok.ensures.ok in
    let read = front.read in
    let taken = c.in-Ok.whole.length in
    let own = take taken (octets_at octets left) in
    let at = c.attribute_type_and_value_at.ensures in
    let count = taken_counted octets left taken read.within read.some in
    let laid = laid_from (sym at.offset) (at.fields own (front_at front)) in
    let moved = c.behind.ensures read.some (left_counted octets left read.within read.fits) in
    let begins = front.begins in
    let offset = at.offset in
    let lasts = at.length in
    let next = moved.begins in
    let follows : c.attribute_type_and_value_at.result.whole.offset + c.attribute_type_and_value_at.result.whole.length ≡ c.behind.result.offset = omega arith in
    inr (
      c.in-Some.next,
      c.in-Some.ensures,
      inl (record {
        no_fault = record { number = refl; unchanged = refl };
        given = record { value = c.in-Ok.value; taken = taken; read = read; shown = (follows, at.length ∙ sym count, laid); behind = moved };
        parts = refl;
      }),
    )

pub returns-in-Err : goal.returns-in-Err
returns-in-Err c =
    let told = c.refuse_with.ensures in
    inr (c.in-Some.next, c.in-Some.ensures, inr (attribute_refused c.in-Err.ensures.err told.written told.number refl refl))
