use Rattle.std.proofs.Common.{◌∙◌, inl, refl, sym, take}
use Rattle.der_c.specs.Building.{octets_at}
use Rattle.der_c.proofs.Left.{front_at, laid_from, left_counted, taken_counted}
use Rattle.der_c.proofs.next.der_next_signer_info.Goals as goal

pub returns-in-Ok : goal.returns-in-Ok
returns-in-Ok c =
    let octets = c.args.octets.now in
    let left = c.args.left.now in
    let front = c.in-Ok.ensures.ok in
    let read = front.read in
    let taken = c.in-Ok.whole.length in
    let own = take taken (octets_at octets left) in
    let at = c.signer_info_at.ensures in
    let count = taken_counted octets left taken read.within read.some in
    let laid = laid_from front.begins (at.fields own (front_at front)) in
    inl (
      record { number = refl; unchanged = refl },
      record {
        value = c.in-Ok.value;
        taken = taken;
        read = read;
        shown = (at.offset ∙ front.begins, at.length ∙ sym count, laid, at.version);
        behind = c.behind.ensures read.some (left_counted octets left read.within read.fits);
      },
    )
