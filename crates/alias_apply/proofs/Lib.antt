mod MadeKeys
