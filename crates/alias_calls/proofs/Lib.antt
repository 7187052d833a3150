mod WholePart
