use Rattle.std.proofs.Common.{◌≡◌, rules, ap, sym, ◌∙◌, refl, Some}
use Rattle.std.specs.Prelude.{option_copied, slice_get}
use Rattle.rust_kinds.proofs.Groups.{no_keyword, keyword_at}
use Rattle.rust_kinds.proofs.keywords.keyword.Goals as goal

pub returns-in-83 : goal.returns-in-83
returns-in-83 c =
    c.word_upper_s.ensures
    ∙ keyword_at c.args.edition c.args.text.now c.in-Some.first.now 83
    (ap (λ l. slice_get l 0) (sym c.as_bytes.ensures.value) ∙ sym c.first.ensures.value ∙ ap option_copied c.in-Some.is)
    (search rules)
    refl

pub returns-in-97 : goal.returns-in-97
returns-in-97 c =
    c.word_a.ensures
    ∙ keyword_at c.args.edition c.args.text.now c.in-Some.first.now 97
    (ap (λ l. slice_get l 0) (sym c.as_bytes.ensures.value) ∙ sym c.first.ensures.value ∙ ap option_copied c.in-Some.is)
    (search rules)
    refl

pub returns-in-98 : goal.returns-in-98
returns-in-98 c =
    c.word_b.ensures
    ∙ keyword_at c.args.edition c.args.text.now c.in-Some.first.now 98
    (ap (λ l. slice_get l 0) (sym c.as_bytes.ensures.value) ∙ sym c.first.ensures.value ∙ ap option_copied c.in-Some.is)
    (search rules)
    refl

pub returns-in-99 : goal.returns-in-99
returns-in-99 c =
    c.word_c.ensures
    ∙ keyword_at c.args.edition c.args.text.now c.in-Some.first.now 99
    (ap (λ l. slice_get l 0) (sym c.as_bytes.ensures.value) ∙ sym c.first.ensures.value ∙ ap option_copied c.in-Some.is)
    (search rules)
    refl

pub returns-in-100 : goal.returns-in-100
returns-in-100 c =
    c.word_d.ensures
    ∙ keyword_at c.args.edition c.args.text.now c.in-Some.first.now 100
    (ap (λ l. slice_get l 0) (sym c.as_bytes.ensures.value) ∙ sym c.first.ensures.value ∙ ap option_copied c.in-Some.is)
    (search rules)
    refl

pub returns-in-101 : goal.returns-in-101
returns-in-101 c =
    c.word_e.ensures
    ∙ keyword_at c.args.edition c.args.text.now c.in-Some.first.now 101
    (ap (λ l. slice_get l 0) (sym c.as_bytes.ensures.value) ∙ sym c.first.ensures.value ∙ ap option_copied c.in-Some.is)
    (search rules)
    refl

pub returns-in-102 : goal.returns-in-102
returns-in-102 c =
    c.word_f.ensures
    ∙ keyword_at c.args.edition c.args.text.now c.in-Some.first.now 102
    (ap (λ l. slice_get l 0) (sym c.as_bytes.ensures.value) ∙ sym c.first.ensures.value ∙ ap option_copied c.in-Some.is)
    (search rules)
    refl

pub returns-in-103 : goal.returns-in-103
returns-in-103 c =
    c.word_g.ensures
    ∙ keyword_at c.args.edition c.args.text.now c.in-Some.first.now 103
    (ap (λ l. slice_get l 0) (sym c.as_bytes.ensures.value) ∙ sym c.first.ensures.value ∙ ap option_copied c.in-Some.is)
    (search rules)
    refl

pub returns-in-105 : goal.returns-in-105
returns-in-105 c =
    c.word_i.ensures
    ∙ keyword_at c.args.edition c.args.text.now c.in-Some.first.now 105
    (ap (λ l. slice_get l 0) (sym c.as_bytes.ensures.value) ∙ sym c.first.ensures.value ∙ ap option_copied c.in-Some.is)
    (search rules)
    refl

pub returns-in-108 : goal.returns-in-108
returns-in-108 c =
    c.word_l.ensures
    ∙ keyword_at c.args.edition c.args.text.now c.in-Some.first.now 108
    (ap (λ l. slice_get l 0) (sym c.as_bytes.ensures.value) ∙ sym c.first.ensures.value ∙ ap option_copied c.in-Some.is)
    (search rules)
    refl

pub returns-in-109 : goal.returns-in-109
returns-in-109 c =
    c.word_m.ensures
    ∙ keyword_at c.args.edition c.args.text.now c.in-Some.first.now 109
    (ap (λ l. slice_get l 0) (sym c.as_bytes.ensures.value) ∙ sym c.first.ensures.value ∙ ap option_copied c.in-Some.is)
    (search rules)
    refl

pub returns-in-111 : goal.returns-in-111
returns-in-111 c =
    c.word_o.ensures
    ∙ keyword_at c.args.edition c.args.text.now c.in-Some.first.now 111
    (ap (λ l. slice_get l 0) (sym c.as_bytes.ensures.value) ∙ sym c.first.ensures.value ∙ ap option_copied c.in-Some.is)
    (search rules)
    refl

pub returns-in-112 : goal.returns-in-112
returns-in-112 c =
    c.word_p.ensures
    ∙ keyword_at c.args.edition c.args.text.now c.in-Some.first.now 112
    (ap (λ l. slice_get l 0) (sym c.as_bytes.ensures.value) ∙ sym c.first.ensures.value ∙ ap option_copied c.in-Some.is)
    (search rules)
    refl

pub returns-in-114 : goal.returns-in-114
returns-in-114 c =
    c.word_r.ensures
    ∙ keyword_at c.args.edition c.args.text.now c.in-Some.first.now 114
    (ap (λ l. slice_get l 0) (sym c.as_bytes.ensures.value) ∙ sym c.first.ensures.value ∙ ap option_copied c.in-Some.is)
    (search rules)
    refl

pub returns-in-115 : goal.returns-in-115
returns-in-115 c =
    c.word_s.ensures
    ∙ keyword_at c.args.edition c.args.text.now c.in-Some.first.now 115
    (ap (λ l. slice_get l 0) (sym c.as_bytes.ensures.value) ∙ sym c.first.ensures.value ∙ ap option_copied c.in-Some.is)
    (search rules)
    refl

pub returns-in-116 : goal.returns-in-116
returns-in-116 c =
    c.word_t.ensures
    ∙ keyword_at c.args.edition c.args.text.now c.in-Some.first.now 116
    (ap (λ l. slice_get l 0) (sym c.as_bytes.ensures.value) ∙ sym c.first.ensures.value ∙ ap option_copied c.in-Some.is)
    (search rules)
    refl

pub returns-in-117 : goal.returns-in-117
returns-in-117 c =
    c.word_u.ensures
    ∙ keyword_at c.args.edition c.args.text.now c.in-Some.first.now 117
    (ap (λ l. slice_get l 0) (sym c.as_bytes.ensures.value) ∙ sym c.first.ensures.value ∙ ap option_copied c.in-Some.is)
    (search rules)
    refl

pub returns-in-118 : goal.returns-in-118
returns-in-118 c =
    c.word_v.ensures
    ∙ keyword_at c.args.edition c.args.text.now c.in-Some.first.now 118
    (ap (λ l. slice_get l 0) (sym c.as_bytes.ensures.value) ∙ sym c.first.ensures.value ∙ ap option_copied c.in-Some.is)
    (search rules)
    refl

pub returns-in-119 : goal.returns-in-119
returns-in-119 c =
    c.word_w.ensures
    ∙ keyword_at c.args.edition c.args.text.now c.in-Some.first.now 119
    (ap (λ l. slice_get l 0) (sym c.as_bytes.ensures.value) ∙ sym c.first.ensures.value ∙ ap option_copied c.in-Some.is)
    (search rules)
    refl

pub returns-in-121 : goal.returns-in-121
returns-in-121 c =
    c.word_y.ensures
    ∙ keyword_at c.args.edition c.args.text.now c.in-Some.first.now 121
    (ap (λ l. slice_get l 0) (sym c.as_bytes.ensures.value) ∙ sym c.first.ensures.value ∙ ap option_copied c.in-Some.is)
    (search rules)
    refl

pub returns-in_default : goal.returns-in_default
returns-in_default c =
    no_keyword c.args.edition c.args.text.now c.in-Some.first.now
    (ap (λ l. slice_get l 0) (sym c.as_bytes.ensures.value) ∙ sym c.first.ensures.value ∙ ap option_copied c.in-Some.is)
    (search rules)
