use Rattle.std.proofs.Common.{◌≡◌, rules, ap, sym, ◌∙◌, refl, Some}
use Rattle.std.specs.Prelude.{option_copied, slice_get}
use Rattle.rust_kinds.proofs.Groups.{no_name, name_at}
use Rattle.rust_kinds.proofs.contextual.contextual_kind.Goals as goal

pub returns-in-97 : goal.returns-in-97
returns-in-97 c =
    c.name_a.ensures
    ∙ name_at c.args.text.now c.in-Some.first.now 97
    (ap (λ l. slice_get l 0) (sym c.as_bytes.ensures.value) ∙ sym c.first.ensures.value ∙ ap option_copied c.in-Some.is)
    (search rules)
    refl

pub returns-in-98 : goal.returns-in-98
returns-in-98 c =
    c.name_b.ensures
    ∙ name_at c.args.text.now c.in-Some.first.now 98
    (ap (λ l. slice_get l 0) (sym c.as_bytes.ensures.value) ∙ sym c.first.ensures.value ∙ ap option_copied c.in-Some.is)
    (search rules)
    refl

pub returns-in-99 : goal.returns-in-99
returns-in-99 c =
    c.name_c.ensures
    ∙ name_at c.args.text.now c.in-Some.first.now 99
    (ap (λ l. slice_get l 0) (sym c.as_bytes.ensures.value) ∙ sym c.first.ensures.value ∙ ap option_copied c.in-Some.is)
    (search rules)
    refl

pub returns-in-100 : goal.returns-in-100
returns-in-100 c =
    c.name_d.ensures
    ∙ name_at c.args.text.now c.in-Some.first.now 100
    (ap (λ l. slice_get l 0) (sym c.as_bytes.ensures.value) ∙ sym c.first.ensures.value ∙ ap option_copied c.in-Some.is)
    (search rules)
    refl

pub returns-in-102 : goal.returns-in-102
returns-in-102 c =
    c.name_f.ensures
    ∙ name_at c.args.text.now c.in-Some.first.now 102
    (ap (λ l. slice_get l 0) (sym c.as_bytes.ensures.value) ∙ sym c.first.ensures.value ∙ ap option_copied c.in-Some.is)
    (search rules)
    refl

pub returns-in-103 : goal.returns-in-103
returns-in-103 c =
    c.name_g.ensures
    ∙ name_at c.args.text.now c.in-Some.first.now 103
    (ap (λ l. slice_get l 0) (sym c.as_bytes.ensures.value) ∙ sym c.first.ensures.value ∙ ap option_copied c.in-Some.is)
    (search rules)
    refl

pub returns-in-105 : goal.returns-in-105
returns-in-105 c =
    c.name_i.ensures
    ∙ name_at c.args.text.now c.in-Some.first.now 105
    (ap (λ l. slice_get l 0) (sym c.as_bytes.ensures.value) ∙ sym c.first.ensures.value ∙ ap option_copied c.in-Some.is)
    (search rules)
    refl

pub returns-in-108 : goal.returns-in-108
returns-in-108 c =
    c.name_l.ensures
    ∙ name_at c.args.text.now c.in-Some.first.now 108
    (ap (λ l. slice_get l 0) (sym c.as_bytes.ensures.value) ∙ sym c.first.ensures.value ∙ ap option_copied c.in-Some.is)
    (search rules)
    refl

pub returns-in-109 : goal.returns-in-109
returns-in-109 c =
    c.name_m.ensures
    ∙ name_at c.args.text.now c.in-Some.first.now 109
    (ap (λ l. slice_get l 0) (sym c.as_bytes.ensures.value) ∙ sym c.first.ensures.value ∙ ap option_copied c.in-Some.is)
    (search rules)
    refl

pub returns-in-110 : goal.returns-in-110
returns-in-110 c =
    c.name_n.ensures
    ∙ name_at c.args.text.now c.in-Some.first.now 110
    (ap (λ l. slice_get l 0) (sym c.as_bytes.ensures.value) ∙ sym c.first.ensures.value ∙ ap option_copied c.in-Some.is)
    (search rules)
    refl

pub returns-in-111 : goal.returns-in-111
returns-in-111 c =
    c.name_o.ensures
    ∙ name_at c.args.text.now c.in-Some.first.now 111
    (ap (λ l. slice_get l 0) (sym c.as_bytes.ensures.value) ∙ sym c.first.ensures.value ∙ ap option_copied c.in-Some.is)
    (search rules)
    refl

pub returns-in-112 : goal.returns-in-112
returns-in-112 c =
    c.name_p.ensures
    ∙ name_at c.args.text.now c.in-Some.first.now 112
    (ap (λ l. slice_get l 0) (sym c.as_bytes.ensures.value) ∙ sym c.first.ensures.value ∙ ap option_copied c.in-Some.is)
    (search rules)
    refl

pub returns-in-114 : goal.returns-in-114
returns-in-114 c =
    c.name_r.ensures
    ∙ name_at c.args.text.now c.in-Some.first.now 114
    (ap (λ l. slice_get l 0) (sym c.as_bytes.ensures.value) ∙ sym c.first.ensures.value ∙ ap option_copied c.in-Some.is)
    (search rules)
    refl

pub returns-in-115 : goal.returns-in-115
returns-in-115 c =
    c.name_s.ensures
    ∙ name_at c.args.text.now c.in-Some.first.now 115
    (ap (λ l. slice_get l 0) (sym c.as_bytes.ensures.value) ∙ sym c.first.ensures.value ∙ ap option_copied c.in-Some.is)
    (search rules)
    refl

pub returns-in-117 : goal.returns-in-117
returns-in-117 c =
    c.name_u.ensures
    ∙ name_at c.args.text.now c.in-Some.first.now 117
    (ap (λ l. slice_get l 0) (sym c.as_bytes.ensures.value) ∙ sym c.first.ensures.value ∙ ap option_copied c.in-Some.is)
    (search rules)
    refl

pub returns-in-121 : goal.returns-in-121
returns-in-121 c =
    c.name_y.ensures
    ∙ name_at c.args.text.now c.in-Some.first.now 121
    (ap (λ l. slice_get l 0) (sym c.as_bytes.ensures.value) ∙ sym c.first.ensures.value ∙ ap option_copied c.in-Some.is)
    (search rules)
    refl

pub returns-in_default : goal.returns-in_default
returns-in_default c =
    no_name c.args.text.now c.in-Some.first.now
    (ap (λ l. slice_get l 0) (sym c.as_bytes.ensures.value) ∙ sym c.first.ensures.value ∙ ap option_copied c.in-Some.is)
    (search rules)
