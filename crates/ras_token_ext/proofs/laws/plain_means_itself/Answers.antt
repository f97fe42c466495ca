use Rattle.ras_token_ext.proofs.Plain as lemmas
use Rattle.ras_token_ext.proofs.laws.plain_means_itself.Goals as goal

pub returns-clause-bytes : goal.returns-clause-bytes
returns-clause-bytes c mode content utf8 plain good = lemmas.means_itself mode content utf8 plain good

pub returns-clause-text : goal.returns-clause-text
returns-clause-text c content utf8 plain good = lemmas.spells_itself content utf8 plain good
