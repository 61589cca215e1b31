mod NumberLaws
